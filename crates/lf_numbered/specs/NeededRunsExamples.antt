-- Worked: covered goals that are no goals of inputs of a constant's heads, where what `cover` needs is so.
use Rattle.std.specs.Prelude.{ℕ, [], ◌∷◌, Bool}
use Rattle.lf.specs.Subordination.{IsBelowTest, Member}
use Rattle.lf_cases.specs.Pattern.{Pattern}
use Rattle.lf_cases.specs.Split.{Ends}
use Rattle.lf_totality.specs.Examples.{Addition, first_below_second, plus_heads, plus_successor_case}
use Rattle.lf_coverage.specs.Calls.{instance}
use Rattle.lf_numbered.specs.NumberedCalls.{NumberedCoverIs, NumberedCoverNeeds, NumberedMatchedIs, all_covered}
use Rattle.lf_numbered.specs.NumberedCandidatesRuns.{AnswersFirst}
use Rattle.lf_numbered.specs.Numbering.{numbered}
use Rattle.lf_numbered.specs.NumberedSplitsExamples.{Bare, exp_block, has_head, open_case}

-- plus (s X) Y _ may be handed in with plus-z and plus-s. It is an instance of plus-s, at once, and covered.
abbrev pub SuccessorIsCovered : Type 0
SuccessorIsCovered = NumberedCoverNeeds Addition 4 [] first_below_second plus_heads (numbered 4 plus_successor_case) × NumberedCoverIs Addition 4 [] first_below_second plus_heads (numbered 4 plus_successor_case) all_covered

-- In the worlds of {x:exp} {u:p x}, where no clause is a constant's, p X is split at its first candidate X into p b.x,
-- an instance of u; so u alone covers p X.
abbrev pub EntryAloneCovers : Type 0
EntryAloneCovers = (below : ℕ → ℕ → Bool) → ((f : ℕ) → IsBelowTest Bare (exp_block ∷ []) (below f) f) → Ends (λ D. (p : Pattern) × Member p (has_head ∷ []) × NumberedMatchedIs Bare 2 (exp_block ∷ []) D p instance) (AnswersFirst Bare 2 (exp_block ∷ []) below (has_head ∷ [])) open_case × NumberedCoverIs Bare 2 (exp_block ∷ []) below (has_head ∷ []) open_case all_covered
