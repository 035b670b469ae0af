-- Worked heads of patterns.
use Rattle.std.specs.Prelude.{List, [], ◌∷◌}
use Rattle.lf.specs.Syntax.{LfType, nil, app, pi, root, variable}
use Rattle.lf_cases.specs.Case.{Item, free_variable}
use Rattle.lf_totality.specs.Examples.{Addition, first_below_second, nat, plus_input_goal, z, var}
use Rattle.lf_totality.specs.ExamplesBlocks.{Numbered}
use Rattle.lf_totality.specs.ExamplesGroups.{on_one}
use Rattle.lf_coverage.specs.PatternSplits.{HeadHasPatterns}

-- F : nat -> nat, and a head {x:nat} a (F x) over it
abbrev pub function_items : List Item
function_items = free_variable (pi nat nat) ∷ []

abbrev pub dependent_type : LfType
dependent_type = pi nat (on_one 2 (root (variable 1) (app (var 0) nil)))

-- The head s of a number has patterns: its new variable and its result are numbers. The head {x:nat} a (F x) of a variable of a z has none: its result
-- is a (F Y) for a new variable Y, which isn't bound.
abbrev pub HeadsHavePatterns : Type 0
HeadsHavePatterns = HeadHasPatterns Addition first_below_second nat plus_input_goal.items 0 (pi nat nat) × (HeadHasPatterns Numbered first_below_second (on_one 2 z) function_items 0 dependent_type → ⊥)
