-- The answers of the calls by number, where what they need is so.
use Rattle.std.proofs.Common.{ℕ, List}
use Rattle.std.specs.Prelude.{Bool}
use Rattle.lf.specs.Typing.{Signature}
use Rattle.lf.specs.Subordination.{Block, Member}
use Rattle.lf_cases.specs.Pattern.{Pattern}
use Rattle.lf_cases.specs.Split.{Ends}
use Rattle.lf_cases.proofs.Subordinate.{below_is_subordination}
use Rattle.lf_coverage.specs.Calls.{instance}
use Rattle.lf_coverage.proofs.Runs.{other_run}
use Rattle.lf_numbered.specs.EntryPatternsRuns.{IsNumberedLeaf}
use Rattle.lf_numbered.specs.NumberedCalls.{IsFor, IsSetting, NumberedMatchedIs}
use Rattle.lf_numbered.specs.NumberedCallsLaws.{AnswersForGoal}
use Rattle.lf_numbered.specs.NumberedCallsOutside.{IsSplitCaseByNumber}
use Rattle.lf_numbered.specs.NumberedCase.{NumberedCase}
use Rattle.lf_numbered.specs.NumberedNeedsLaws.{MissingIsHonest, NeededRunIsCovered, NeededSplitIsAnswer, ReachedIsDecided, ReachedMayBeSplit}
use Rattle.lf_numbered.specs.TypedNumbered.{IsTypedNumberedCase}
use Rattle.lf_numbered.proofs.NumberedCallsLaws.{answered_by_number_is_covered, answered_by_number_is_split_answer}
use Rattle.lf_numbered.proofs.NumberedCandidatesSplits.{first_is_candidate_by_number}
use Rattle.lf_numbered.proofs.NumberedNeedsDecided.{needed_instance_is_decided}
use Rattle.lf_numbered.proofs.NumberedNeedsReached.{reached_is_numbered_instance}
use Rattle.lf_numbered.proofs.NumberedNeedsSplits.{reached_has_needs, split_for}
use Rattle.lf_numbered.proofs.NumberedReached.{reached_missing_is_uncovered}
use Rattle.lf_numbered.proofs.NumberedSplitCases.{answered_case, split_case_is_typed}

pub reached_is_decided : ReachedIsDecided
reached_is_decided Σ first W below ps goal n D r p l = needed_instance_is_decided Σ first W D p (reached_has_needs Σ first W below ps goal n D r p l).0

pub reached_may_be_split : ReachedMayBeSplit
reached_may_be_split Σ first W below ps goal n D r x f =
    let (p, l, c) = first_is_candidate_by_number Σ first W D x ps f in
    (reached_has_needs Σ first W below ps goal n D r p l).1 x c

pub needed_split_is_answer : NeededSplitIsAnswer
needed_split_is_answer Σ first W below C x n Cs l = answered_by_number_is_split_answer Σ n.setting.signature W n.setting.blocks below (below_is_subordination Σ n.setting.signature W n.setting.blocks below n.subordination) first n.setting.free C n.case x Cs l

-- Along a run the patterns of the list stay ones for its cases, whatever the splits are that unification gives.
module _ (Σ : Signature) (first : ℕ) (W : List Block) (s : IsSetting Σ first W) (below : ℕ → ℕ → Bool) (ps : List Pattern) where
  abbrev Leaf : NumberedCase → Type 0
  Leaf D = (p : Pattern) × Member p ps × NumberedMatchedIs Σ first W D p instance

  abbrev AreFor : NumberedCase → Type 0
  AreFor D = IsTypedNumberedCase Σ first W D × ((p : Pattern) → Member p ps → IsFor Σ first W D p)

  module _ (Splits : NumberedCase → List NumberedCase → Type 0) (gives : (C : NumberedCase) (Cs : List NumberedCase) → Splits C Cs → (D : NumberedCase) → Member D Cs → (x : ℕ) × IsSplitCaseByNumber Σ first W below C x D) where
    split_are_for : (C : NumberedCase) → AreFor C → (Cs : List NumberedCase) → Splits C Cs → (D : NumberedCase) → Member D Cs → AreFor D
    split_are_for C (tc, f) Cs a D m =
        let (x, sp) = gives C Cs a D m in
        (split_case_is_typed Σ s.signature W s.blocks first s.free below C tc x D sp, λ p l. split_for Σ s.signature W s.blocks first s.free below C tc x D sp p (f p l))

    pub leaves_of : {C : NumberedCase} → AreFor C → Ends Leaf Splits C → Ends (IsNumberedLeaf Σ first W ps) Splits C
    leaves_of h r = other_run {Kept = AreFor} (λ D (t, f) (p, l, i). record { typed = t; pattern = p; listed = l; pattern_typed = (f p l).typed; same_length = (f p l).same_length; given_own = (f p l).given_own; is_instance = i }) (λ C Cs k a. (a, split_are_for C k Cs a)) h r

pub needed_run_is_covered : NeededRunIsCovered
needed_run_is_covered Σ first W below ps goal n r = answered_by_number_is_covered Σ n.setting.signature W n.setting.blocks below (below_is_subordination Σ n.setting.signature W n.setting.blocks below n.subordination) first n.setting.free ps goal n.case n.one_block (leaves_of Σ first W n.setting below ps (AnswersForGoal Σ first W below goal) (λ C Cs (x, a, q) D m. (x, answered_case Σ first W below C x Cs a D m)) (n.case, n.patterns) r)

pub missing_is_honest : MissingIsHonest
missing_is_honest Σ first W below ps goal n D (r, m) = (
  (reached_is_numbered_instance Σ n.setting.signature W n.setting.blocks first n.setting.free below ps goal n.case D r).0,
  (λ p l. (m.apart p l).no_instance),
  (λ S Σ' x G w θ ρ i c. reached_missing_is_uncovered Σ n.setting.signature W n.setting.blocks first n.setting.free below ps goal D n.case (λ p l. (n.patterns p l).own_block) (r, m) S Σ' x G w θ ρ i c),
)
