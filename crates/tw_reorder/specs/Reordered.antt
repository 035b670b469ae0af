-- A type and a term over a context, in the order of first occurrence, as far as dependency lets it.
use Rattle.std.specs.Prelude.{◌≡◌, ℕ, ◌<◌, List, Some, length}
use Rattle.lf.specs.Subordination.{Member}
use Rattle.lf.specs.Syntax.{LfType, Term, rename, rename_type}
use Rattle.lf_elaboration.specs.Principal.{IsReordering}
use Rattle.tw_abstract.specs.Order.{IsOrder}
use Rattle.tw_abstract.specs.Positions.{index}
use Rattle.lf.specs.Typing.{IsContext, Signature}
use Rattle.tw_reorder.specs.Waiting.{occurring, waiting_in}

-- F is a context, and has the variables of A, of M and of Ms.
pub record AreWithin (F : List LfType) (A : LfType) (M : Term) (Ms : List Term) : Type 0 where
  pub signature : Signature
  pub context : IsContext signature F
  pub within : (v : ℕ) → Member v (occurring A M Ms) → v < length F

-- The variables of F in this order, the outermost first: repeatedly the first whose needs stand, of the variables in order of first occurrence in A, in M, and in Ms, in the types of the
-- variables so far, and then the others. G is the context in this order, and B and N are A and M over it.
pub record AreReordered (F : List LfType) (A : LfType) (M : Term) (Ms : List Term) (order : List ℕ) (G : List LfType) (B : LfType) (N : Term) : Type 0 where
  pub in_order : IsOrder (waiting_in F A M Ms) order
  pub there : ℕ → ℕ
  pub back : ℕ → ℕ
  pub reordered : IsReordering F G there back
  pub by_order : (v i : ℕ) → index order v ≡ Some i → there v ≡ i
  pub type_moved : B ≡ rename_type there A
  pub term_moved : N ≡ rename there M
