-- Runs by number along which nothing is asked of families are runs of which it is known.
use Rattle.std.proofs.Common.{ℕ, List, sym, subst}
use Rattle.std.specs.Prelude.{Bool}
use Rattle.lf.specs.Typing.{Signature, IsSignature}
use Rattle.lf.specs.Variables.{FamiliesIn}
use Rattle.lf.specs.Subordination.{Block, AreTypedBlocks, IsBelowTest, Member}
use Rattle.lf_checks.specs.Below.{IsSubordination}
use Rattle.lf_cases.specs.Case.{input_goal}
use Rattle.lf_cases.specs.OutputGoal.{output_goal}
use Rattle.lf_cases.specs.Pattern.{origin}
use Rattle.lf_cases.proofs.Subordinate.{below_is_subordination}
use Rattle.lf_coverage.specs.Calls.{IsBeside}
use Rattle.lf_numbered.specs.EntryConstants.{IsFreeFrom}
use Rattle.lf_cases.specs.Split.{Ends}
use Rattle.lf_coverage.proofs.GoalItems.{one_without}
use Rattle.lf_coverage.proofs.Runs.{other_run}
use Rattle.lf_coverage.proofs.TypedCases.{input_goal_is_typed_case}
use Rattle.lf_numbered.specs.NumberedBeside.{AllTakeBelow, IsUnifiedByNumber, TakesIn, WorldsTakeBelow}
use Rattle.lf_numbered.specs.NumberedBesideRuns.{UnifiedByNumberIsSplit, UnifiedByNumberCovers, UnifiedByNumberIsAnswer, UnifiedByNumberCoversInputs, UnifiedByNumberGivesOutputs}
use Rattle.lf_numbered.specs.NumberedCase.{NumberedCase}
use Rattle.lf_numbered.specs.NumberedSplits.{IsAnsweredByNumber}
use Rattle.lf_numbered.specs.TypedNumbered.{IsTypedNumberedCase}
use Rattle.lf_numbered.proofs.EntryPatternsOutputs.{numbered_output_goal_is_typed}
use Rattle.lf_numbered.proofs.NumberedBeside.{unified_by_number_is_answered}
use Rattle.lf_numbered.proofs.NumberedBesideGoals.{inputs_take_below, numbered_takes_below, outputs_take_below}
use Rattle.lf_numbered.proofs.NumberedSplits.{answered_by_number_is_split}
use Rattle.lf_numbered.proofs.NumberedSplitsRuns.{answered_by_number_stays_typed, answered_by_number_covers, answered_by_number_is_answer, answered_by_number_gives_outputs}
use Rattle.lf_numbered.proofs.TypedNumbered.{numbered_case_is_typed}

module _ (Σ : Signature) (ok : IsSignature Σ) (W : List Block) (typed : AreTypedBlocks Σ W) (below : ℕ → ℕ → Bool) (test : (f : ℕ) → IsBelowTest Σ W (below f) f) (worlds : WorldsTakeBelow below W) (first : ℕ) (free : IsFreeFrom Σ first) where
  -- `Families` is what is asked of the type of the variable at each split.
  module _ (Families : Rattle.lf.specs.Syntax.LfType → Type 0) (Leaf : NumberedCase → Type 0) where
    abbrev Unifies : NumberedCase → List NumberedCase → Type 0
    Unifies C Cs = (x : ℕ) × (sp : IsUnifiedByNumber Σ first W below C x Cs) × Families sp.type

    abbrev Answers : NumberedCase → List NumberedCase → Type 0
    Answers C Cs = (x : ℕ) × (sp : IsAnsweredByNumber Σ first W below C x Cs) × Families sp.type

    abbrev Kept : NumberedCase → Type 0
    Kept C = IsTypedNumberedCase Σ first W C × AllTakeBelow below C.variables

    split_kept : (C : NumberedCase) (Cs : List NumberedCase) → Kept C → Unifies C Cs → Answers C Cs × ((D : NumberedCase) → Member D Cs → Kept D)
    split_kept C Cs (t, q) (x, sp, f) =
        let ((an, e), k) = unified_by_number_is_answered Σ ok W typed below test worlds first free C t q x Cs sp in
        ((x, an, subst Families (sym e) f), λ D m. (answered_by_number_stays_typed Σ ok W typed below first free C t x Cs an D m, k D m))

    pub unified_run : {C : NumberedCase} → IsTypedNumberedCase Σ first W C × AllTakeBelow below C.variables → Ends Leaf (λ D Ds. (x : ℕ) × (sp : IsUnifiedByNumber Σ first W below D x Ds) × Families sp.type) C → Ends Leaf (λ D Ds. (x : ℕ) × (sp : IsAnsweredByNumber Σ first W below D x Ds) × Families sp.type) C
    unified_run k r = other_run {Kept = Kept} (λ C k l. l) split_kept k r

  pub s : IsSubordination Σ W below
  s = below_is_subordination Σ ok W typed below test

pub unified_by_number_is_split : UnifiedByNumberIsSplit
unified_by_number_is_split Σ ok W typed below test worlds S sc first free C tc q x Cs sp f =
    let ((an, e), k) = unified_by_number_is_answered Σ ok W typed below test worlds first free C tc q x Cs sp in
    answered_by_number_is_split Σ ok W typed below (below_is_subordination Σ ok W typed below test) S sc first free C tc x Cs an (subst (FamiliesIn S) (sym e) f)

pub unified_by_number_covers : UnifiedByNumberCovers
unified_by_number_covers Σ ok W typed below test worlds S sc first free ps C tc n q r = answered_by_number_covers Σ ok W typed below (below_is_subordination Σ ok W typed below test) S sc first free ps C tc n (unified_run Σ ok W typed below test worlds first free (TakesIn S) _ (tc, q) r)

pub unified_by_number_is_answer : UnifiedByNumberIsAnswer
unified_by_number_is_answer Σ ok W typed below test worlds first free ps goal n t l q r = answered_by_number_is_answer Σ ok W typed below (below_is_subordination Σ ok W typed below test) first free ps goal n t l (unified_run Σ ok W typed below test worlds first free (λ A. (S : ℕ → Bool) → IsBeside Σ W S goal → TakesIn S A) _ (numbered_case_is_typed Σ ok W typed first free goal t l, numbered_takes_below below first goal q) r)

pub unified_by_number_covers_inputs : UnifiedByNumberCoversInputs
unified_by_number_covers_inputs Σ ok W typed below test worlds first free ps a m K e c r =
    let (t, l, n) = input_goal_is_typed_case Σ ok W typed a m K e c in
    unified_by_number_is_answer Σ ok W typed below test worlds first free ps (input_goal a m K) (one_without (input_goal a m K).items n) t l (inputs_take_below Σ W below test a m K e) r

pub unified_by_number_gives_outputs : UnifiedByNumberGivesOutputs
unified_by_number_gives_outputs Σ ok W typed first free below test worlds m f df c d t U all_out i A sub seq needs sound none K e low runs =
    answered_by_number_gives_outputs Σ ok W typed first free below (below_is_subordination Σ ok W typed below test) m f df c d t U all_out i A sub seq needs sound none K e low
    (λ b. unified_run Σ ok W typed below test worlds first free (TakesIn (below f)) _ ((numbered_output_goal_is_typed Σ ok W typed first free below m c b U i A sub needs sound none K e).0, numbered_takes_below below first (output_goal below m (origin b) U A K) (outputs_take_below Σ W below test worlds m c b U i A sub K e)) (runs b))
