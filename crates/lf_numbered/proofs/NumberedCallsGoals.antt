-- Candidates of a case by number; and goals whose numbered form is covered.
use Rattle.std.proofs.Common.{◌≡◌, ℕ, zero, suc, List, [], ◌∷◌, refl, sym, ap, ◌∙◌, subst, true≢false}
use Rattle.std.specs.Prelude.{Bool, true, false}
use Rattle.lf.specs.Syntax.{LfType, weaken}
use Rattle.lf.specs.Typing.{Signature, TypeAt}
use Rattle.lf.specs.Subordination.{Block}
use Rattle.lf.specs.Worlds.{lift_over}
use Rattle.lf_cases.specs.Candidates.{free_among, hide_all}
use Rattle.lf_cases.specs.Case.{Item, free_variable, block_variable, Case, input_goal}
use Rattle.lf_cases.specs.OutputGoal.{free_variables}
use Rattle.lf_cases.specs.Reached.{items_onto}
use Rattle.lf_cases.specs.Split.{HasNoBlockVariable}
use Rattle.lf_coverage.specs.Calls.{IsBeside, PlacesIn}
use Rattle.lf_coverage.proofs.Candidates.{candidate_is_variable}
use Rattle.lf_coverage.proofs.HeadSplit.{places_put_in as places_put}
use Rattle.lf_coverage.proofs.LocalsInSet.{locals_put}
use Rattle.lf_coverage.proofs.TypedCases.{input_goal_is_typed_case}
use Rattle.lf_numbered.specs.NumberedCalls.{IsBesideByNumber}
use Rattle.lf_numbered.specs.NumberedCallsLaws.{CoveredIsCoveredGoal, NumberedCandidateIsFree, NumberedInputGoalIsTyped}
use Rattle.lf_numbered.specs.NumberedCallsReached.{block_items, with_entry_variables}
use Rattle.lf_numbered.specs.Numbering.{numbered, numbering}
use Rattle.lf_numbered.specs.NumberedCase.{NumberedCase}
use Rattle.lf_numbered.specs.OwnTerms.{BlockVariable, rename_blocks}
use Rattle.lf_numbered.specs.TypedNumbered.{IsTypedNumberedCase}
use Rattle.lf_numbered.proofs.EntryPatternsForms.{numbered_covers_case}
use Rattle.lf_numbered.proofs.TypedNumbered.{numbered_case_is_typed}

-- no entry is free
hidden : (es : List LfType) (U : ℕ → Bool) → ((i : ℕ) → U i ≡ false) → (i : ℕ) → hide_all es U i ≡ false
hidden [] U n i = n i
hidden (E ∷ es) U n zero = refl
hidden (E ∷ es) U n (suc i) = hidden es U n i

pub none_free : (bs : List BlockVariable) (i : ℕ) → free_among (block_items bs) i ≡ false
none_free [] i = refl
none_free (b ∷ bs) i = hidden b.block.entries (free_among (block_items bs)) (none_free bs) i

free_has_type : (X : List LfType) (bs : List BlockVariable) (i : ℕ) → free_among (items_onto (free_variables X) (block_items bs)) i ≡ true → (A : LfType) × TypeAt X i A
free_has_type [] bs i e = absurd (true≢false (sym e ∙ none_free bs i))
free_has_type (B ∷ X) bs zero e = (weaken B, refl)
free_has_type (B ∷ X) bs (suc i) e = let (A, h) = free_has_type X bs i e in (weaken A, (A, h, refl))

pub numbered_candidate_is_free : NumberedCandidateIsFree
numbered_candidate_is_free first C p x m = free_has_type C.variables C.blocks x (candidate_is_variable (with_entry_variables first C) p x m).0

-- The sets beside which a goal is to be covered are those of its numbered form.
pub beside_by_number : (Σ : Signature) (W : List Block) (S : ℕ → Bool) (first : ℕ) (C : Case) → IsBeside Σ W S C → IsBesideByNumber Σ W S (numbered first C)
beside_by_number Σ W S first C b = record {
  self_contained = b.self_contained;
  kind = b.kind;
  of_family = b.of_family;
  places = subst (λ bs. PlacesIn S bs b.kind) (sym (places_put (lift_over C.local (numbering first C.items).images) C.arguments)) b.places;
  locals = locals_put S C.local (numbering first C.items).images b.locals;
}

pub covered_is_covered_goal : CoveredIsCoveredGoal
covered_is_covered_goal Σ ok W typed first free below ps goal tc c S b = numbered_covers_case Σ ok W typed S first free ps goal tc (c S (beside_by_number Σ W S first goal b))

-- free variables alone make no block variable
no_blocks : (first : ℕ) (I : List Item) → HasNoBlockVariable I → (numbering first I).blocks ≡ []
no_blocks first [] n = refl
no_blocks first (free_variable A ∷ I) n = ap (rename_blocks suc) (no_blocks first I n)
no_blocks first (block_variable B υ ∷ I) n = absurd n

pub numbered_input_goal_is_typed : NumberedInputGoalIsTyped
numbered_input_goal_is_typed Σ ok W typed first free a m K e only C is =
    let (t, l, n) = input_goal_is_typed_case Σ ok W typed a m K e only in
    (subst (IsTypedNumberedCase Σ first W) (sym is) (numbered_case_is_typed Σ ok W typed first free (input_goal a m K) t l), ap (λ (D : NumberedCase). D.blocks) is ∙ no_blocks first (input_goal a m K).items n)
