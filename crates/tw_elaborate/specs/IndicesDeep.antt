-- Types and kinds that are compared: behind an argument of a family a kind is left with a domain that is deeper than 4,096.
use Rattle.std.specs.Prelude.{◌≡◌, Some, ◌⊎◌}
use Rattle.lf.specs.Depth.{depth_limit}
use Rattle.lf.specs.Syntax.{Kind, LfType, atom, kind_pi, pi, star}
use Rattle.lf.specs.Typing.{Signature}
use Rattle.tw_open.specs.Deep.{KindTakesDeep}

module _ (Σ : Signature) where
  -- in an atom of the type
  abbrev pub IndicesDeep : LfType → Type 0
  IndicesDeep (pi A B) = IndicesDeep A ⊎ IndicesDeep B
  IndicesDeep (atom a S) = (K : Kind) × (Σ.kinds a ≡ Some K) × KindTakesDeep depth_limit K S

  -- in a domain of the kind
  abbrev pub KindIndicesDeep : Kind → Type 0
  KindIndicesDeep (kind_pi A K) = IndicesDeep A ⊎ KindIndicesDeep K
  KindIndicesDeep star = ⊥

  -- The first of two types is compared with another one: types that are the same make no equation.
  pub record TypesDeep (A X : LfType) : Type 0 where
    pub differ : A ≡ X → ⊥
    pub deep : IndicesDeep A
