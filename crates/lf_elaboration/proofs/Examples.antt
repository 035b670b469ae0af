-- The worked declarations, derived.
use Rattle.std.proofs.Common.{◌≡◌, ℕ, zero, suc, [], ◌∷◌, ap, refl, arith}
use Rattle.std.specs.Prelude.{IsSortedBy}
use Rattle.lf.specs.Entries.{declare_constant}
use Rattle.lf.specs.Syntax.{base, star}
use Rattle.lf_elaboration.specs.Elaboration.{at_applied, at_arrow, at_constant, at_definition, at_bound, at_family, at_family_applied, at_family_name, at_free, at_function, at_kind_arrow, at_of_skeleton, at_quantified, at_star, checks_function, checks_hole, checks_inferred, kind_takes_next, kind_takes_none, new_atom, next_free, no_frees, takes_all, takes_first, takes_next, takes_none}
use Rattle.lf_elaboration.specs.Examples.{SameHasNoEquation, BackwardHasSites, UntypedHasSite, FreesInOrder, column, anywhere, NumberIsNotPrincipal, nat, place, vec, z, DefinitionIsExpanded, EquationsAreAll, FullIsElaborated, entries, equal_numbers, full_behind, full_unequated, meta, successor, HoleIsRaised, KindIsElaborated, PlusSuccessorIsElaborated, ShortIsExpanded}
use Rattle.lf_elaboration.specs.Completions.{family_applied_completed, family_completed, family_name_completed, free_completed, kind_any_none}
use Rattle.lf_elaboration.specs.Principal.{Completion, IsCompletion, written_constant}
use Rattle.lf_elaboration.specs.Written.{family, family_applied, free}
use Rattle.lf_elaboration.specs.Sites.{Site, is_site_before}
use Rattle.lf_elaboration.specs.State.{State}
use Rattle.lf_elaboration.proofs.Once.{type_once}
use native.Mathlib.Decide.{ℕ_discrete}

pub plus_successor : PlusSuccessorIsElaborated
plus_successor = (
  next_free (new_atom refl takes_all) (next_free (new_atom refl takes_all) (next_free (new_atom refl takes_all) no_frees)),
  at_arrow
      (at_family (at_family_applied (at_family_applied (at_family_applied (at_family_name refl refl kind_takes_none) (checks_inferred tt (at_free refl refl) refl)) (checks_inferred tt (at_free refl refl) refl)) (checks_inferred tt (at_free refl refl) refl)))
      (at_family (at_family_applied (at_family_applied (at_family_applied (at_family_name refl refl kind_takes_none) (checks_inferred tt (at_applied (at_constant refl refl takes_none) (checks_inferred tt (at_free refl refl) refl)) refl)) (checks_inferred tt (at_free refl refl) refl)) (checks_inferred tt (at_applied (at_constant refl refl takes_none) (checks_inferred tt (at_free refl refl) refl)) refl))),
)

pub full_vector : FullIsElaborated
unfolding ℕ_discrete
full_vector = (
  next_free (new_atom refl (takes_first takes_all)) no_frees,
  at_family (at_family_applied (at_family_name refl refl (kind_takes_next kind_takes_none)) (checks_inferred tt (at_applied (at_applied (at_constant refl refl (takes_next takes_none)) (checks_inferred tt (at_constant refl refl takes_none) refl)) (checks_inferred tt (at_free refl refl) refl)) refl)),
)

pub same_has_none : SameHasNoEquation
unfolding ℕ_discrete
same_has_none = (refl, refl)

pub equations_all : EquationsAreAll
equations_all A x = (let p : full_behind ≡ full_unequated = (type_once entries (1 ∷ []) full_vector.1 x).0 in no (ap (λ (s : State). s.equations) p))
  where
    no : (equal_numbers (meta 0) (meta 3) ∷ equal_numbers (successor (meta 3)) (meta 2) ∷ []) ≡ (equal_numbers (meta 0) (meta 3) ∷ []) → ⊥
    no e = cc

pub hole_raised : HoleIsRaised
hole_raised = at_quantified (at_of_skeleton (new_atom refl takes_all)) (at_family (at_family_applied (at_family_name refl refl kind_takes_none) (checks_function (at_of_skeleton (new_atom refl takes_all)) refl (checks_hole refl))))

pub short_expanded : ShortIsExpanded
short_expanded = at_family (at_family_applied (at_family_name refl refl kind_takes_none) (checks_inferred tt (at_constant refl refl takes_none) refl))

pub definition_expanded : DefinitionIsExpanded
definition_expanded = at_applied (at_function (at_of_skeleton (new_atom refl takes_all)) (at_bound refl)) (checks_inferred tt (at_definition refl refl takes_none) refl)

pub kind_elaborated : KindIsElaborated
kind_elaborated = at_kind_arrow (at_family (at_family_applied (at_family_name refl refl kind_takes_none) (checks_hole refl))) at_star

abbrev with_variable : Completion
with_variable = record { quantifiers = nat ∷ []; frees = record { term = place 0; of_type = nat } ∷ []; body = declare_constant (vec (place 0)) }

variable_completes : IsCompletion entries (base 0 ∷ []) (written_constant (family_applied (family 4 anywhere) (free 0 anywhere))) with_variable
variable_completes = record {
  context = (tt, (star, refl, tt));
  frees_typed = ((refl, (star, refl, tt), (nat, refl, refl)), tt);
  completed = family_completed (family_applied_completed (family_name_completed refl refl kind_any_none) (free_completed refl));
}

pub number_not_principal : NumberIsNotPrincipal
number_not_principal = (
  record {
    context = tt;
    frees_typed = ((refl, (star, refl, tt), (nat, refl, refl)), tt);
    completed = family_completed (family_applied_completed (family_name_completed refl refl kind_any_none) (free_completed refl));
  },
  λ p. no (p.most_general with_variable variable_completes).body,
)
  where
    no : declare_constant (vec z) ≡ declare_constant (vec (place 0)) → ⊥
    no e = cc

-- a metavariable or a free variable at a column
abbrev at_column : ℕ → ℕ → Site
at_column n m = record { at = column n; of = m }

backward_in_order : IsSortedBy is_site_before (at_column 9 3 ∷ at_column 14 2 ∷ at_column 19 0 ∷ at_column 19 1 ∷ [])
backward_in_order zero d l h = refl
backward_in_order (suc zero) d l h = refl
backward_in_order (suc (suc zero)) d l h = refl
backward_in_order (suc (suc (suc k))) d l h = absurd (omega arith)

pub backward_sites : BackwardHasSites
backward_sites = record {
  sorted = at_column 9 3 ∷ at_column 14 2 ∷ at_column 19 0 ∷ at_column 19 1 ∷ [];
  all = record { moves = (2, 3) ∷ (1, 2) ∷ (0, 3) ∷ []; below = (omega arith, omega arith, (omega arith, omega arith, (omega arith, omega arith, tt))); is = refl };
  in_order = backward_in_order;
  are = refl;
}

one_in_order : (s : Site) → IsSortedBy is_site_before (s ∷ [])
one_in_order s k d l h = absurd (omega arith)

pub untyped_site : UntypedHasSite
untyped_site = (
  record { sorted = at_column 5 0 ∷ []; all = record { moves = []; below = tt; is = refl }; in_order = one_in_order (at_column 5 0); are = refl },
  record { sorted = at_column 5 0 ∷ []; all = record { moves = []; below = tt; is = refl }; in_order = one_in_order (at_column 5 0); are = refl },
)

two_in_order : IsSortedBy is_site_before (at_column 10 1 ∷ at_column 12 0 ∷ [])
two_in_order zero d l h = refl
two_in_order (suc k) d l h = absurd (omega arith)

pub frees_ordered : FreesInOrder
frees_ordered = record {
  sorted = at_column 10 1 ∷ at_column 12 0 ∷ [];
  all = record { moves = (0, 1) ∷ []; below = (omega arith, omega arith, tt); is = refl };
  in_order = two_in_order;
  are = refl;
}
