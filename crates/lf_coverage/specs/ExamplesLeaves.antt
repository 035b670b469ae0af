-- Worked cases: runs whose leaves are instances of clauses.
use Rattle.std.specs.Prelude.{[], ◌∷◌}
use Rattle.lf_cases.specs.Pattern.{Pattern, of_constant, head_pattern, subgoal_pattern, IsCoveredCase}
use Rattle.lf_cases.specs.Split.{IsInstanceCase, Ends}
use Rattle.lf_cases.specs.Reached.{IsInstanceOf}
use Rattle.lf_totality.specs.Examples.{Addition, Copying, copy_block, copy_heads, block_case, var, on_three, plus_z, plus_s, plus_heads, plus_input_goal, plus_successor_case, plus_output_case, first_below_second}
use Rattle.lf_coverage.specs.Leaf.{IsInstanceLeaf}
use Rattle.lf_coverage.specs.UnifiedSplit.{SplitsByUnification}

-- The inputs of addition: a split by unification gives plus z Y _ and plus (s X) Y _, which are instances of plus-z and of plus-s. The second is
-- none of plus-z.
abbrev pub PlusEndsAtLeaves : Type 0
PlusEndsAtLeaves = Ends (IsInstanceLeaf Addition [] plus_heads) (SplitsByUnification Addition [] (first_below_second 1) first_below_second) plus_input_goal × IsCoveredCase Addition [] (first_below_second 1) plus_heads plus_input_goal × (IsInstanceOf Addition [] plus_successor_case (head_pattern plus_z (of_constant plus_z.type)) → ⊥)

-- The case cp x _ of a block variable is a leaf, by the entry u : cp x x of its block; so it is an instance of a clause in each context.
abbrev pub EntryIsLeaf : Type 0
EntryIsLeaf = IsInstanceLeaf Copying (copy_block ∷ []) copy_heads block_case × IsInstanceCase Copying (copy_block ∷ []) (first_below_second 1) copy_heads block_case

-- The goal of output coverage of the subgoal plus X Y Z of plus-s is a leaf itself, so that its run ends at once and it is covered.
abbrev pub plus_asked : Pattern
plus_asked = subgoal_pattern plus_s (of_constant plus_s.type) (on_three 1 (var 3) (var 2) (var 1))

abbrev pub GoalIsOutputLeaf : Type 0
GoalIsOutputLeaf = IsInstanceLeaf Addition [] (plus_asked ∷ []) plus_output_case × IsCoveredCase Addition [] (first_below_second 1) (plus_asked ∷ []) plus_output_case
