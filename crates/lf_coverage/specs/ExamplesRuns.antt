-- Worked runs: one that covers its goal, and goals of which a case is missing.
use Rattle.std.specs.Prelude.{[], ◌∷◌}
use Rattle.lf_cases.specs.Split.{Ends}
use Rattle.lf_totality.specs.Examples.{Addition, plus_heads, plus_input_goal, plus_zero_case, plus_successor_case, first_below_second}
use Rattle.lf_coverage.specs.Calls.{AreCasesBesideAll, CoverIs, MatchedIs, apart, covered, missing}
use Rattle.lf_coverage.specs.ExamplesTyped.{plus_s_head}
use Rattle.lf_coverage.specs.Leaf.{IsInstanceLeaf}
use Rattle.lf_coverage.specs.UnifiedSplit.{SolvesEachHead}

-- Unification answers for plus X Y _ at z and at s, and the two cases are instances of plus-z and plus-s. So these cover it beside each set that the
-- contract names.
abbrev pub PlusRunCovers : Type 0
PlusRunCovers = Ends (IsInstanceLeaf Addition [] plus_heads) (SolvesEachHead Addition [] first_below_second) plus_input_goal × CoverIs Addition [] first_below_second plus_heads plus_input_goal covered

-- The cases of its split are those that are to be answered.
abbrev pub PlusCasesAreAnswer : Type 0
PlusCasesAreAnswer = AreCasesBesideAll Addition [] first_below_second plus_input_goal 1 (plus_zero_case ∷ plus_successor_case ∷ [])

-- Where plus has no clause at all its goal is missing itself. plus z Y _ is matched with plus-s as apart.
abbrev pub PlusIsMissing : Type 0
PlusIsMissing = CoverIs Addition [] first_below_second [] plus_input_goal (missing plus_input_goal) × MatchedIs Addition [] plus_zero_case plus_s_head apart
