-- Types and kinds over what was made so far and the variables in scope: that skeletons type them, in some signature.
use Rattle.std.specs.Prelude.{List}
use Rattle.lf.specs.Syntax.{Kind, LfType}
use Rattle.lf.specs.Typing.{IsSignature, Signature}
use Rattle.lf_elaboration.specs.Skeletons.{IsNumbered, KindHasSkeletons, LocalHasSkeletons, TypeHasSkeletons}
use Rattle.lf_elaboration.specs.State.{State}

-- a type
pub record TypeStands (s : State) (D : List LfType) (A : LfType) : Type 0 where
  pub signature : Signature
  pub typed_signature : IsSignature signature
  pub numbered : IsNumbered s
  pub local : LocalHasSkeletons signature s D
  pub of_type : TypeHasSkeletons signature s D A

-- and a kind
pub record KindStands (s : State) (D : List LfType) (K : Kind) : Type 0 where
  pub signature : Signature
  pub typed_signature : IsSignature signature
  pub numbered : IsNumbered s
  pub local : LocalHasSkeletons signature s D
  pub of_kind : KindHasSkeletons signature s D K
