-- A head is applied to new metavariables: between the states of the store before and after.
use Rattle.std.specs.Prelude.{◌≡◌, ℕ, suc, List, [], ◌∷◌, length}
use Rattle.lf.specs.Syntax.{LfType, Spine, Term, atom, pi}
use Rattle.lf.specs.Typing.{instantiate_type}
use Rattle.lf_unification.specs.Offering.{AppliesToNew}
use Rattle.tw_metas.specs.State.{State}
use Rattle.tw_putting.specs.Stores.{types_of}
use Rattle.tw_open.specs.Fresh.{IsNew}

-- M is a new metavariable for the first argument of X, and Y the type that is left
pub record TakesOne (D : List LfType) (X : LfType) (M : Term) (Y : LfType) (old new : State) : Type 0 where
  pub domain : LfType
  pub range : LfType
  pub is : X ≡ pi domain range
  pub fresh : IsNew D domain M old new
  pub left_over : Y ≡ instantiate_type domain M range

-- a head of type A in the local context D is applied to the new metavariables S, and the atom of the family a on T is left
abbrev pub TakesAll : List LfType → LfType → State → State → Spine → ℕ → Spine → Type 0
TakesAll D A old new S a T = AppliesToNew D (types_of old) (length old.declared) A (types_of new) (length new.declared) S a T

-- a number for each leading quantifier, from n on
abbrev pub numbers_from : ℕ → LfType → List ℕ
numbers_from n (atom a S) = []
numbers_from n (pi A B) = n ∷ numbers_from (suc n) B
