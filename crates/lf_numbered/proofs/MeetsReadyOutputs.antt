-- The stores of the cases of a run from a goal of outputs with the subgoal are well formed.
use Rattle.std.proofs.Common.{◌≡◌, ℕ, zero, suc, ◌+◌, ◌<◌, List, [], ◌∷◌, length, refl, sym, ◌∙◌, arith}
use Rattle.std.specs.Prelude.{Bool, true, false, Option}
use Rattle.lf.specs.Syntax.{Term, LfType}
use Rattle.lf.specs.Typing.{Signature}
use Rattle.lf.specs.Variables.{binders, everything}
use Rattle.lf.specs.Subordination.{Block}
use Rattle.lf_checks.specs.Clause.{outside}
use Rattle.lf_cases.specs.OutputGoal.{kept_terms, output_goal}
use Rattle.lf_cases.specs.Pattern.{is_given, origin, subgoal_pattern}
use Rattle.lf_cases.specs.Reached.{arguments_count}
use Rattle.lf_totality.proofs.Theorem.{outside_from}
use Rattle.lf_coverage.specs.SplitStore.{answer_values}
use Rattle.lf_coverage.proofs.Leaves.{subgoal_is_typed}
use Rattle.lf_coverage.proofs.StayTyped.{is_given_put}
use Rattle.lf_numbered.specs.EntryPatternsOutputs.{numbered_output_goal}
use Rattle.lf_numbered.specs.MeetsReady.{OutputRunMeetStoreIsReady}
use Rattle.lf_numbered.specs.NumberedCase.{NumberedCase}
use Rattle.lf_numbered.specs.OwnStores.{ComesByNumbers, no_split, then_block, then_split}
use Rattle.lf_numbered.proofs.EntryPatternsNear.{out_far}
use Rattle.lf_numbered.proofs.MeetsReadyGivenMeets.{given_meet_store_is_ready}
use Rattle.lf_numbered.proofs.NumberedBesideStays.{numbered_output_run_stays_beside}
use Rattle.lf_numbered.proofs.RenamedBlocks.{is_given_renamed}

-- Terms are given for the first n variables at most.
abbrev GivenBelow : ℕ → List (Option Term) → Type 0
GivenBelow n Ms = (i : ℕ) → is_given Ms i ≡ true → i < n

kept_below : (U : ℕ → Bool) (D : List LfType) (ρ : ℕ → ℕ) → GivenBelow (length D) (kept_terms U D ρ)
kept_below U [] ρ i e = absurd cc
kept_below U (A ∷ D) ρ zero e = omega arith
kept_below U (A ∷ D) ρ (suc i) e = let l = kept_below (λ j. U (suc j)) D (λ j. ρ (suc j)) i e in omega (arith, l)

comes_below : (n : ℕ) (Σ : Signature) (W : List Block) (first : ℕ) (below : ℕ → ℕ → Bool) (G C : NumberedCase) → GivenBelow n G.given → ComesByNumbers Σ W first below G C → GivenBelow n C.given
comes_below n Σ W first below G C h no_split = h
comes_below n Σ W first below G C h (then_block {D = D} B r w) = λ i e. comes_below n Σ W first below G D h r i (sym (is_given_renamed _ D.given i) ∙ e)
comes_below n Σ W first below G C h (then_split {D = D} x X j U A K after r g o e s) = λ i e. comes_below n Σ W first below G D h r i (sym (is_given_put (λ l. answer_values after s.well_formed.order (l + arguments_count A)) D.given i) ∙ e)

-- these are the clause's own
own_below : (T : LfType) (Ms : List (Option Term)) → GivenBelow (length (binders [] T)) Ms → (i : ℕ) → is_given Ms i ≡ true → outside T everything i ≡ false
own_below T Ms h i e = by (outside T everything i) refl
  where
    never : (k : ℕ) → i < length (binders [] T) → i ≡ k + length (binders [] T) → ⊥
    never k l q = omega (arith, l, q)

    by : (y : Bool) → outside T everything i ≡ y → y ≡ false
    by false q = refl
    by true q = let (k, r, z) = outside_from T everything i q in absurd (never k (h i e) (r ∙ out_far T k))

pub output_run_meet_store_is_ready : OutputRunMeetStoreIsReady
output_run_meet_store_is_ready Σ ok W typed first free below m c d U all_out closed i A sub needs sound none K e C r π is z J φ at Σe x =
    given_meet_store_is_ready Σ ok W typed first free C (subgoal_pattern c (origin d) A) (subgoal_is_typed Σ ok W typed c d i A sub) refl
    (numbered_output_run_stays_beside Σ ok W typed first free below m c d U all_out closed i A sub needs sound none K e C r)
    (own_below c.type C.given (comes_below (length (binders [] c.type)) Σ W first below (numbered_output_goal first below m (origin d) U A K) C (λ j q. kept_below _ (binders [] c.type) _ j (sym (is_given_put _ (output_goal below m (origin d) U A K).given j) ∙ q)) r))
    K e π is z J φ at Σe x
