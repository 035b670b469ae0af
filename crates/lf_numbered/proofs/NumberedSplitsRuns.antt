-- A run of splits of cases whose block variables have numbers, at each head of which unification answers, covers its goal.
use Rattle.std.proofs.Common.{ℕ, List, [], ◌∷◌}
use Rattle.std.specs.Prelude.{Bool}
use Rattle.lf.specs.Typing.{Signature, IsSignature}
use Rattle.lf.specs.Subordination.{Block, AreTypedBlocks, SelfContained}
use Rattle.lf_checks.specs.Below.{IsSubordination}
use Rattle.lf_cases.specs.Case.{Case}
use Rattle.lf_cases.specs.Pattern.{Pattern, origin, subgoal_pattern}
use Rattle.lf_cases.specs.Split.{Ends}
use Rattle.lf_coverage.specs.Calls.{IsBeside}
use Rattle.lf_coverage.proofs.Runs.{other_run}
use Rattle.lf_numbered.specs.EntryConstants.{IsFreeFrom}
use Rattle.lf_numbered.specs.EntryPatternsRuns.{IsNumberedLeaf, IsNumberedSplit}
use Rattle.lf_numbered.specs.NumberedCase.{NumberedCase}
use Rattle.lf_numbered.specs.NumberedSplitsRuns.{AnswersByNumber, AnsweredByNumberStaysTyped, AnsweredByNumberCovers, AnsweredByNumberCoversCase, AnswersByNumberFor, AnsweredByNumberIsAnswer, AnsweredByNumberGivesOutputs}
use Rattle.lf_numbered.specs.TypedNumbered.{IsTypedNumberedCase}
use Rattle.lf_numbered.proofs.EntryPatternsForms.{numbered_run_covers, numbered_run_covers_case}
use Rattle.lf_numbered.proofs.EntryPatternsOutputs.{numbered_output_goal_is_typed, numbered_runs_give_outputs}
use Rattle.lf_numbered.proofs.NumberedSplitCases.{answered_case, split_case_is_typed}
use Rattle.lf_numbered.proofs.NumberedSplits.{is_split}
use Rattle.lf_numbered.proofs.TypedNumbered.{numbered_case_is_typed}

pub answered_by_number_stays_typed : AnsweredByNumberStaysTyped
answered_by_number_stays_typed Σ ok W typed below first free C tc x Cs sp D m = split_case_is_typed Σ ok W typed first free below C tc x D (answered_case Σ first W below C x Cs sp D m)

module _ (Σ : Signature) (ok : IsSignature Σ) (W : List Block) (typed : AreTypedBlocks Σ W) (below : ℕ → ℕ → Bool) (s : IsSubordination Σ W below) (S : ℕ → Bool) (sc : SelfContained Σ W S) (first : ℕ) (free : IsFreeFrom Σ first) (ps : List Pattern) where
  numbered_run : {C : NumberedCase} → IsTypedNumberedCase Σ first W C → Ends (IsNumberedLeaf Σ first W ps) (AnswersByNumber Σ first W below S) C → Ends (IsNumberedLeaf Σ first W ps) (IsNumberedSplit Σ first W S) C
  numbered_run tc r = other_run {Kept = IsTypedNumberedCase Σ first W} (λ C t l. l) (λ C Cs t (x, sp, f). (is_split Σ ok W typed below s S sc first free C t x Cs sp f, answered_by_number_stays_typed Σ ok W typed below first free C t x Cs sp)) tc r

pub answered_by_number_covers : AnsweredByNumberCovers
answered_by_number_covers Σ ok W typed below s S sc first free ps C tc n r = numbered_run_covers Σ ok W typed S first free ps C n (numbered_run Σ ok W typed below s S sc first free ps tc r)

pub answered_by_number_covers_case : AnsweredByNumberCoversCase
answered_by_number_covers_case Σ ok W typed below s S sc first free ps C n tc tl r = numbered_run_covers_case Σ ok W typed S first free ps C n tc (numbered_run Σ ok W typed below s S sc first free ps (numbered_case_is_typed Σ ok W typed first free C tc tl) r)

-- splits for a goal are splits beside each set beside which it is to be covered
module _ (Σ : Signature) (first : ℕ) (W : List Block) (below : ℕ → ℕ → Bool) (S : ℕ → Bool) (goal : Case) (b : IsBeside Σ W S goal) (Leaf : NumberedCase → Type 0) where
  beside_run : {C : NumberedCase} → Ends Leaf (AnswersByNumberFor Σ first W below goal) C → Ends Leaf (AnswersByNumber Σ first W below S) C
  beside_run r = other_run {Kept = λ C. Unit {0}} (λ C k l. l) (λ C Cs k (x, sp, f). ((x, sp, f S b), λ D m. tt)) tt r

pub answered_by_number_is_answer : AnsweredByNumberIsAnswer
answered_by_number_is_answer Σ ok W typed below s first free ps goal n tc tl r = λ S b. answered_by_number_covers_case Σ ok W typed below s S b.self_contained first free ps goal n tc tl (beside_run Σ first W below S goal b (IsNumberedLeaf Σ first W ps) r)

pub answered_by_number_gives_outputs : AnsweredByNumberGivesOutputs
answered_by_number_gives_outputs Σ ok W typed first free below s m f df c d t U all_out i A sub seq needs sound none K e low runs =
    numbered_runs_give_outputs Σ ok W typed first free below s m f df c d t U all_out i A sub seq needs sound none K e low
    (λ b. numbered_run Σ ok W typed below s (below f) (s.self_contained f df) first free (subgoal_pattern c (origin b) A ∷ []) (numbered_output_goal_is_typed Σ ok W typed first free below m c b U i A sub needs sound none K e).0 (runs b))
