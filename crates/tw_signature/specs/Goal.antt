-- The goal of a query.
use Rattle.std.specs.Prelude.{ℕ, List, Option}
use Rattle.lf.specs.Syntax.{LfType}
use Rattle.tw_terms.specs.View.{type_of}
use Rattle.tw_signature.specs.declared.goal.Goal.{Goal as AskedGoal}

-- the variables of a query, the newest in front, with their names; those that are shown, in the order of the text; the name of the proof; and the goal over the variables
pub record Goal : Type 0 where
  pub variables : List LfType
  pub names : List (Option (List ℕ))
  pub shown : List ℕ
  pub proof : Option (List ℕ)
  pub goal : LfType

abbrev pub goal_of : AskedGoal → Goal
goal_of g = record { variables = g.variables; names = g.names.items; shown = g.shown.items; proof = g.proof; goal = type_of g.goal }
