-- What a call writes on a page.
use Rattle.std.specs.Prelude.{◌≡◌, ℕ, List, ◌∷◌, ◌++◌, Option}
use Rattle.lf.specs.Syntax.{LfType}
use Rattle.tw_print.specs.Pieces.{Piece, render}
use Rattle.tw_print.specs.declared.page.Page.{Page}

-- it writes these pieces behind the others, and leaves the variables in scope as they are
pub record Writes (p q : Page) (ps : List Piece) : Type 0 where
  pub out : q.out.items ≡ p.out.items ++ render ps
  pub context : q.context ≡ p.context
  pub scope : q.scope ≡ p.scope

-- it writes these pieces, and one more variable comes in scope
pub record Binds (p q : Page) (ps : List Piece) (A : LfType) (x : Option (List ℕ)) : Type 0 where
  pub out : q.out.items ≡ p.out.items ++ render ps
  pub context : q.context ≡ A ∷ p.context
  pub scope : q.scope ≡ x ∷ p.scope
