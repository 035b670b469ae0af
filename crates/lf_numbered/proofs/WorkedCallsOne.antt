-- Two block variables that are made one: the equations are solved.
use Rattle.std.proofs.Common.{◌≡◌, ℕ, zero, suc, ◌+◌, [], ◌∷◌, inl, refl, sym, ◌∙◌, subst, arith}
use Rattle.std.specs.Prelude.{false, Option, Some}
use Rattle.lf.specs.Syntax.{constant, Term, root, nil, LfType, base}
use Rattle.lf.specs.Substitution.{Image, keep, put, substitute_spine, substitute_type, reduce}
use Rattle.lf.specs.AtOnce.{in_front}
use Rattle.lf.specs.Typing.{ImageHasType}
use Rattle.lf.specs.Variables.{UsesType, same_number}
use Rattle.lf_unification.specs.Steps.{CanRefute, Run, bind, constants_differ, drop_equal, no_step, put_bindings, then_run}
use Rattle.lf.specs.Rules.{stop}
use Rattle.lf_unification.specs.Outside.{CanBind}
use Rattle.lf_unification.specs.Putting.{put_nothing, some_at_bound, some_nowhere}
use Rattle.lf_unification.specs.Unifiers.{Binding, Store, on_right}
use Rattle.lf_checks.specs.Worlded.{IsTerm}
use Rattle.lf_totality.specs.Examples.{exp}
use Rattle.lf_coverage.specs.SplitStore.{context_metavariables}
use Rattle.lf_coverage.proofs.ExamplesUnified.{no_argument}
use Rattle.lf_coverage.proofs.Parts.{none_some, some_same}
use Rattle.lf_coverage.proofs.UsedVariables.{at_one, types_of_one}
use Rattle.lf_numbered.specs.EntryConstants.{with_entries}
use Rattle.lf_numbered.specs.EntryPatterns.{IsInstanceOfPattern}
use Rattle.lf_numbered.specs.NumberedCallsMeeting.{HasPattern, SharesInstance}
use Rattle.lf_numbered.specs.NumberedCase.{NumberedCase}
use Rattle.lf_numbered.specs.NumberedInstance.{block_at, move_spine, moved_constant}
use Rattle.lf_numbered.specs.OwnTerms.{BlockVariable, ImageOnOwnTerms, blocks_of, own_terms}
use Rattle.lf_numbered.specs.WorkedCallsOne.{MadeOneIsSolved, Thrice, WithTwo, eq_kind, l_block, store_with, twice_head, two_of_one}
use Rattle.lf_numbered.proofs.WorkedCallsStuck.{shared_not_missing, unsplit_alone}

pub differ : ◌≡◌ {A = ℕ} 4 3 → ⊥
differ e = omega (arith, e)

-- X is b.x
abbrev pub b_x : Term
b_x = root (constant 3) nil

abbrev pub is_entry : Binding
is_entry = record { of = 0; value = b_x }

abbrev pub entry_found : (Ψ : ℕ → Option LfType) → CanBind Ψ [] [] 0 [] b_x
entry_found Ψ = record { inverted = record { inversion = b_x; is = refl }; reached = λ k. false; avoids = ((λ k A v e. absurd v), tt, λ v. v); within = tt }

refuted : CanRefute WithTwo (store_with (λ k. k) two_of_one twice_head eq_kind)
refuted = record {
  reached = _;
  run =
      then_run (bind {A = exp} on_right [] 0 [] b_x exp refl tt no_argument (entry_found _))
      (then_run (put_bindings put_nothing (some_at_bound is_entry (inl refl) some_nowhere stop put_nothing)) no_step);
  refuted = constants_differ differ;
}

solved : (after : Store) × Run WithTwo (store_with (λ k. 0) two_of_one twice_head eq_kind) after × (after.equations ≡ [])
solved = (
  record { metavariables = context_metavariables (exp ∷ []); bindings = is_entry ∷ []; equations = [] },
  then_run (bind {A = exp} on_right [] 0 [] b_x exp refl tt no_argument (entry_found _))
      (then_run (put_bindings put_nothing (some_at_bound is_entry (inl refl) some_nowhere stop put_nothing)) (then_run drop_equal no_step)),
  refl,
)

-- eq b.x b.x
abbrev one_alone : NumberedCase
one_alone = record { blocks = record { block = l_block; terms = nil } ∷ []; variables = []; given = []; local = []; family = 1; arguments = Some (root (constant 3) nil) ∷ Some (root (constant 3) nil) ∷ [] }

abbrev entry_value : ℕ → Image
entry_value = in_front (put (base 0) (root (constant 3) nil)) keep

one_has_pattern : HasPattern Thrice 3 one_alone twice_head
one_has_pattern = record {
  used = same_number 0;
  values = entry_value;
  typed = record {
    typed = λ i A g u. types_of_one (λ i A. ImageHasType (with_entries Thrice 3 (l_block ∷ [])) [] (entry_value i) (substitute_type reduce entry_value A)) exp (refl, (exp, refl, refl)) i A g;
    closed = λ i A g u. types_of_one (λ i A. UsesType (same_number 0) A) exp tt i A g;
  };
  on_own_terms = at_one 0 (λ i. ImageOnOwnTerms (own_terms 3 one_alone.blocks) (entry_value i)) ((nil, refl), tt);
  uses = ((refl, tt), ((refl, tt), tt));
  terms = λ i o u. at_one 0 (λ j. IsTerm (entry_value j)) tt i u;
  given = λ j M u e. absurd (none_some e);
  stands = tt;
  same = (refl, (refl, tt));
}

-- both block variables are the one
abbrev is_first : BlockVariable → Type 0
is_first b = block_at one_alone.blocks 0 ≡ Some (record { block = b.block; terms = substitute_spine reduce (λ i. keep (i + 0)) (move_spine (moved_constant 3 (blocks_of two_of_one.blocks) (blocks_of one_alone.blocks) (λ j. 0)) b.terms) })

both_are_first : (k : ℕ) (b : BlockVariable) → block_at two_of_one.blocks k ≡ Some b → is_first b
both_are_first zero b e = subst is_first (some_same e) refl
both_are_first (suc zero) b e = subst is_first (some_same e) refl
both_are_first (suc (suc k)) b e = absurd (none_some e)

one_shares : SharesInstance Thrice 3 (l_block ∷ []) two_of_one twice_head
one_shares = record {
  common = one_alone;
  typed_variables = record { variables = tt; on_own_terms = λ i A g. absurd g; blocks = (inl refl, (keep, (λ i A g. absurd g), refl), tt, tt) };
  numbers = λ k. 0;
  zeroth = refl;
  values = λ i. keep (i + 0);
  of_case = record { is_instance = record { blocks = both_are_first; values = refl }; family = refl; given = refl; local = refl; arguments = refl };
  of_pattern = one_has_pattern;
}

pub same_constants : {c d : ℕ} → root (constant c) nil ≡ root (constant d) nil → c ≡ d
same_constants e = cc

two_are_none : IsInstanceOfPattern Thrice 3 two_of_one twice_head → ⊥
two_are_none i = differ (same_constants (i.same.1.0 ∙ sym i.same.0))

pub made_one_is_solved : MadeOneIsSolved
made_one_is_solved = (
  refuted,
  solved,
  (two_are_none, inl one_shares, refl),
  λ below. (
    unsplit_alone Thrice 3 (l_block ∷ []) below two_of_one twice_head two_are_none (inl one_shares) refl,
    shared_not_missing Thrice 3 (l_block ∷ []) below two_of_one twice_head one_shares,
  ),
)
