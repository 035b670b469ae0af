-- The variables of an equation's own context, added to that of its metavariables.
use Rattle.std.specs.Prelude.{◌≡◌, ℕ, List, ◌++◌, Option, Some}
use Rattle.lf.specs.Syntax.{LfType}
use Rattle.tw_equation.specs.Text.{local_types}

-- these are their types in front
pub record Entered (f : ℕ → Option ℕ) (D old new : List LfType) : Type 0 where
  pub types : List LfType
  pub are : local_types f D ≡ Some types
  pub in_front : new ≡ types ++ old
