-- Worked cases by number that are stuck.
use Rattle.std.proofs.Common.{◌≡◌, ℕ, zero, suc, ◌+◌, List, [], ◌∷◌, inl, refl, sym, subst}
use Rattle.std.specs.Prelude.{Bool, true, false, Some}
use Rattle.lf.specs.Syntax.{lambda, nil, app, arrow, base, pi, star}
use Rattle.lf.specs.Substitution.{Image, keep, put, substitute_type, reduce}
use Rattle.lf.specs.AtOnce.{in_front}
use Rattle.lf.specs.Typing.{Signature, ImageHasType, IsTypedSubstitution}
use Rattle.lf.specs.Subordination.{Block}
use Rattle.lf.specs.Variables.{UsesType, same_number}
use Rattle.lf_checks.specs.Worlded.{IsTerm}
use Rattle.lf_cases.specs.Cover.{AreTerms, before}
use Rattle.lf_cases.specs.Pattern.{Pattern}
use Rattle.lf_totality.specs.Examples.{nat, var, z}
use Rattle.lf_totality.specs.ExamplesReached.{Applied, applied_clause, applied_goal, head_of}
use Rattle.lf_coverage.specs.Calls.{stuck}
use Rattle.lf_coverage.proofs.Parts.{none_some}
use Rattle.lf_coverage.proofs.UsedVariables.{at_one, types_of_one}
use Rattle.lf_numbered.specs.EntryConstants.{with_entries}
use Rattle.lf_numbered.specs.EntryPatterns.{IsInstanceOfPattern, variable_images}
use Rattle.lf_numbered.specs.NumberedCalls.{NumberedCoverIs, NumberedMatchedIs, one_missing, one_unsplit}
use Rattle.lf_numbered.specs.NumberedCallsMeeting.{HasPattern, SharesInstance}
use Rattle.lf_numbered.specs.NumberedCallsReached.{numbered_candidates, numbered_goal}
use Rattle.lf_numbered.specs.NumberedCallsStores.{MeetsByNumber}
use Rattle.lf_numbered.specs.NumberedCase.{NumberedCase}
use Rattle.lf_numbered.specs.Numbering.{numbered}
use Rattle.lf_numbered.specs.NumberedSplitsExamples.{Bare, exp, open_case}
use Rattle.lf_numbered.specs.OwnTerms.{ImageOnOwnTerms, own_terms}
use Rattle.lf_numbered.specs.WorkedCallsStuck.{AppliedIsStuck, NoPlacesAreStuck, SomeVariableGivesNoCandidate, no_places, number_block, number_head, only_block, only_head}
use Rattle.lf_numbered.proofs.NumberedCallsCopying.{one_member}
use Rattle.lf_numbered.proofs.VariableTyped.{value_is_typed, variable_on_own}

-- A case that meets the one pattern of a list, is no instance of it and has no candidate can't be split, and isn't missing where it shares an instance.
pub unsplit_alone : (Σ : Signature) (first : ℕ) (W : List Block) (below : ℕ → ℕ → Bool) (C : NumberedCase) (p : Pattern) → (IsInstanceOfPattern Σ first C p → ⊥) → MeetsByNumber Σ first W C p → numbered_candidates first C p ≡ [] → NumberedCoverIs Σ first W below (p ∷ []) C (one_unsplit C)
unsplit_alone Σ first W below C p n m c = (
  numbered_goal,
  record {
    no_instance = λ q l i. n (subst (IsInstanceOfPattern Σ first C) (one_member l) i);
    meeting = p;
    listed = inl refl;
    meets = m;
    no_candidate = λ q l. inl (subst (λ r. numbered_candidates first C r ≡ []) (sym (one_member l)) c);
  },
)

pub shared_not_missing : (Σ : Signature) (first : ℕ) (W : List Block) (below : ℕ → ℕ → Bool) (C : NumberedCase) (p : Pattern) → SharesInstance Σ first W C p → NumberedCoverIs Σ first W below (p ∷ []) C (one_missing C) → ⊥
shared_not_missing Σ first W below C p s c = (c.1.apart p (inl refl)).no_instance s

-- So such a case is stuck, can't be split and isn't missing.
pub stuck_alone : (Σ : Signature) (first : ℕ) (W : List Block) (C : NumberedCase) (p : Pattern) → (IsInstanceOfPattern Σ first C p → ⊥) → SharesInstance Σ first W C p → numbered_candidates first C p ≡ [] → NumberedMatchedIs Σ first W C p stuck × ((below : ℕ → ℕ → Bool) → NumberedCoverIs Σ first W below (p ∷ []) C (one_unsplit C) × (NumberedCoverIs Σ first W below (p ∷ []) C (one_missing C) → ⊥))
stuck_alone Σ first W C p n s c = ((n, inl s, c), λ below. (unsplit_alone Σ first W below C p n (inl s) c, shared_not_missing Σ first W below C p s))

pub no_truth : false ≡ true → ⊥
no_truth e = cc

-- k X shares k z with k (F z), where F is [x] x.
abbrev zero_case : NumberedCase
zero_case = record { blocks = []; variables = []; given = []; local = []; family = 2; arguments = Some z ∷ [] }

abbrev identity : ℕ → Image
identity = in_front (put (arrow (base 0) (base 0)) (lambda (var 0))) keep

zero_has_pattern : HasPattern Applied 3 zero_case (head_of applied_clause.type)
zero_has_pattern = record {
  used = same_number 0;
  values = identity;
  typed = record {
    typed = λ i A g u. types_of_one (λ i A. ImageHasType (with_entries Applied 3 []) [] (identity i) (substitute_type reduce identity A)) (pi nat nat) (refl, (nat, refl, refl)) i A g;
    closed = λ i A g u. types_of_one (λ i A. UsesType (same_number 0) A) (pi nat nat) (tt, tt) i A g;
  };
  on_own_terms = at_one 0 (λ i. ImageOnOwnTerms (own_terms 3 []) (identity i)) tt;
  uses = ((refl, (tt, tt)), tt);
  terms = λ i o u. at_one 0 (λ j. IsTerm (identity j)) tt i u;
  given = λ j M u e. absurd (none_some e);
  stands = tt;
  same = (refl, tt);
}

applied_shares : SharesInstance Applied 3 [] (numbered 3 applied_goal) (head_of applied_clause.type)
applied_shares = record {
  common = zero_case;
  typed_variables = record { variables = tt; on_own_terms = λ i A g. absurd g; blocks = tt };
  numbers = λ k. k;
  zeroth = refl;
  values = in_front (put (base 0) z) (λ i. keep (i + 0));
  of_case = record {
    is_instance = record { blocks = λ k b e. absurd (none_some e); values = (z, (λ i. keep (i + 0)), refl, (nat, refl, refl), (tt, tt), refl) };
    family = refl;
    given = refl;
    local = refl;
    arguments = refl;
  };
  of_pattern = zero_has_pattern;
}

applied_is_none : IsInstanceOfPattern Applied 3 (numbered 3 applied_goal) (head_of applied_clause.type) → ⊥
applied_is_none i = no_truth (i.strict.0.0)

pub applied_is_stuck : AppliedIsStuck
applied_is_stuck = (
  applied_is_none,
  (applied_is_none, inl applied_shares, refl),
  (λ below. unsplit_alone Applied 3 [] below (numbered 3 applied_goal) (head_of applied_clause.type) applied_is_none (inl applied_shares) refl),
)

-- p X shares p n with u, for a block variable on n.
abbrev on_number : NumberedCase
on_number = record { blocks = record { block = number_block; terms = app (var 0) nil } ∷ []; variables = exp ∷ []; given = []; local = []; family = 1; arguments = Some (var 0) ∷ [] }

abbrev number_values : ℕ → Image
number_values = before [] (variable_images 2 on_number.blocks 0 number_block (app (var 0) nil))

number_typed : IsTypedSubstitution (with_entries Bare 2 (number_block ∷ [])) (exp ∷ []) (exp ∷ []) number_values
number_typed = value_is_typed (with_entries Bare 2 (number_block ∷ [])) exp (exp ∷ []) number_values (refl, (exp, refl, refl))

number_has_pattern : HasPattern Bare 2 on_number number_head
number_has_pattern = record {
  used = same_number 0;
  values = number_values;
  typed = record { typed = λ i A e u. number_typed i A e; closed = λ i A g u. types_of_one (λ i A. UsesType (same_number 0) A) exp tt i A g };
  on_own_terms = at_one 0 (λ i. ImageOnOwnTerms (own_terms 2 on_number.blocks) (number_values i)) tt;
  uses = ((refl, tt), tt);
  terms = terms;
  given = λ j M u e. absurd (none_some e);
  stands = (0, app (var 0) nil, refl, (λ e. absurd cc), λ k X t. refl);
  same = (refl, tt);
}
  where
    terms : AreTerms number_head.clause (same_number 0) number_values
    terms zero o u = absurd (no_truth (sym o))
    terms (suc i) o u = absurd (no_truth u)

number_shares : SharesInstance Bare 2 (number_block ∷ []) open_case number_head
number_shares = record {
  common = on_number;
  typed_variables = record { variables = (tt, (star, refl, tt)); on_own_terms = variable_on_own (own_terms 2 on_number.blocks) 0; blocks = (inl refl, (number_values, number_typed, refl), (tt, tt), tt) };
  numbers = λ k. k;
  zeroth = refl;
  values = in_front (put (base 0) (var 0)) (λ i. keep (i + 1));
  of_case = record {
    is_instance = record { blocks = λ k b e. absurd (none_some e); values = (var 0, (λ i. keep (i + 1)), refl, (exp, refl, refl), tt, refl) };
    family = refl;
    given = refl;
    local = refl;
    arguments = refl;
  };
  of_pattern = number_has_pattern;
}

number_is_none : IsInstanceOfPattern Bare 2 open_case number_head → ⊥
number_is_none i = none_some i.stands.2

pub some_variable_gives_no_candidate : SomeVariableGivesNoCandidate
some_variable_gives_no_candidate = stuck_alone Bare 2 (number_block ∷ []) open_case number_head number_is_none number_shares refl

-- The goal of exp shares itself, in a case with a block variable, with x.
abbrev with_block : NumberedCase
with_block = record { blocks = record { block = only_block; terms = nil } ∷ []; variables = []; given = []; local = []; family = 0; arguments = [] }

none_used : ℕ → Bool
none_used i = false

only_shares : SharesInstance Bare 2 (only_block ∷ []) no_places only_head
unfolding none_used
only_shares = record {
  common = with_block;
  typed_variables = record { variables = tt; on_own_terms = λ i A g. absurd g; blocks = (inl refl, (keep, (λ i A g. absurd g), refl), tt, tt) };
  numbers = λ k. k;
  zeroth = refl;
  values = λ i. keep (i + 0);
  of_case = record {
    is_instance = record { blocks = λ k b e. absurd (none_some e); values = refl };
    family = refl;
    given = refl;
    local = refl;
    arguments = refl;
  };
  of_pattern = record {
    used = none_used;
    values = before [] (variable_images 2 with_block.blocks 0 only_block nil);
    typed = record { typed = λ i A e u. absurd (no_truth u); closed = λ i A e u. absurd (no_truth u) };
    on_own_terms = λ i u. absurd (no_truth u);
    uses = tt;
    terms = λ i o u. absurd (no_truth u);
    given = λ j M u e. absurd (none_some e);
    stands = (0, nil, refl, (λ e. absurd cc), λ k X t. absurd t);
    same = tt;
  };
}

only_is_none : IsInstanceOfPattern Bare 2 no_places only_head → ⊥
only_is_none i = none_some i.stands.2

pub no_places_are_stuck : NoPlacesAreStuck
no_places_are_stuck = stuck_alone Bare 2 (only_block ∷ []) no_places only_head only_is_none only_shares refl
