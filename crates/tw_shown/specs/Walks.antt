-- What a call adds to a walk through a text.
use Rattle.std.specs.Prelude.{◌≡◌, ℕ, suc, List, ◌∷◌, ◌++◌}
use Rattle.lf.specs.Syntax.{LfType}
use Rattle.tw_shown.specs.Shown.{outside}
use Rattle.tw_shown.specs.declared.walk.Walk.{Walk}

-- these variables, as seen from outside the walk's binders, and no variable comes in scope
pub record Adds (p q : Walk) (is : List ℕ) : Type 0 where
  pub shown : q.shown.items ≡ p.shown.items ++ outside p.binders is
  pub context : q.context ≡ p.context
  pub binders : q.binders ≡ p.binders

-- no variable is shown, and one more comes in scope
pub record Enters (p q : Walk) (A : LfType) : Type 0 where
  pub shown : q.shown.items ≡ p.shown.items
  pub context : q.context ≡ A ∷ p.context
  pub binders : q.binders ≡ suc p.binders
