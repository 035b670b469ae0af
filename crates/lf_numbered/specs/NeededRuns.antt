-- Runs of the strategy by number, where what `cover` needs is so: nothing else is asked.
use Rattle.std.specs.Prelude.{ℕ, List, Bool}
use Rattle.lf.specs.Typing.{Signature}
use Rattle.lf.specs.Subordination.{Block, Member}
use Rattle.lf_unification.specs.Offering.{pi_over}
use Rattle.lf_cases.specs.Pattern.{Pattern}
use Rattle.lf_cases.specs.Split.{Ends}
use Rattle.lf_coverage.specs.Calls.{instance}
use Rattle.lf_numbered.specs.EntryTermsInputs.{closed_head}
use Rattle.lf_numbered.specs.NumberedBesideGiven.{IsTypedBesideByNumber}
use Rattle.lf_numbered.specs.NumberedCalls.{IsHeadFor, NumberedCoverIs, NumberedCoverNeeds, NumberedMatchedIs, NumberedMatchedNeeds, all_covered}
use Rattle.lf_numbered.specs.NumberedCandidatesRuns.{AnswersFirst}
use Rattle.lf_numbered.specs.NumberedCase.{NumberedCase}

-- A case of inputs is typed beside the head of a closed type of its family: that of the clause of each head for it,
-- over what stands outside it. So p X, for which the entry u : p x of {x:exp} {u:p x} is a head, is typed beside
-- {x:exp} p x, though no block variable gives x.
abbrev pub HeadIsBesideClosed : Type 0
HeadIsBesideClosed = (Σ : Signature) (first : ℕ) (W : List Block) (C : NumberedCase) (p : Pattern) → NumberedMatchedNeeds Σ first W C p → IsHeadFor Σ first C p → IsTypedBesideByNumber Σ first W C (closed_head (pi_over p.clause.outer p.clause.type))

-- So a run of the strategy from a goal, each case at whose end is an instance of a pattern of the list, has the answer
-- that it is covered, whatever the goal and the patterns are: as plus (s X) Y _ is by plus-s, p X by the entry u alone,
-- and the goal of a subgoal's outputs by the subgoal.
abbrev pub NeededStrategyRunIsCovered : Type 0
NeededStrategyRunIsCovered = (Σ : Signature) (first : ℕ) (W : List Block) (below : ℕ → ℕ → Bool) (ps : List Pattern) (goal : NumberedCase) → NumberedCoverNeeds Σ first W below ps goal → Ends (λ D. (p : Pattern) × Member p ps × NumberedMatchedIs Σ first W D p instance) (AnswersFirst Σ first W below ps) goal → NumberedCoverIs Σ first W below ps goal all_covered
