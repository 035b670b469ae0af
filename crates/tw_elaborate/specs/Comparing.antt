-- Two types or kinds compared, between the values of the program before and after.
use Rattle.std.specs.Prelude.{◌≡◌, ℕ, zero, List}
use Rattle.lf.specs.Entries.{Entry, signature_of}
use Rattle.lf.specs.Syntax.{Kind, LfType, kind_pi, kind_skeleton, skeleton}
use Rattle.lf.specs.Typing.{Signature}
use Rattle.lf_elaboration.specs.Elaboration.{ElaboratesDomain}
use Rattle.lf_elaboration.specs.State.{State, kind_equations, type_equations, with_equations}
use Rattle.lf_elaboration.specs.Written.{WrittenDomain}
use Rattle.tw_elaborate.specs.declared.state.Elaboration.{Elaboration}
use Rattle.tw_elaborate.specs.View.{made}

-- the types have one skeleton, and their equations in this context were added
pub record ComparesIn (Σ : Signature) (D : List LfType) (A X : LfType) (old new : Elaboration) : Type 0 where
  pub same : skeleton A ≡ skeleton X
  pub state : made new ≡ with_equations (type_equations Σ D A X) (made old)

-- the same where the variables in scope are those of the state
abbrev pub ComparesTypes : Signature → LfType → LfType → Elaboration → Elaboration → Type 0
ComparesTypes Σ A X old new = ComparesIn Σ old.locals A X old new

-- and of kinds
pub record ComparesKinds (Σ : Signature) (K L : Kind) (old new : Elaboration) : Type 0 where
  pub same : kind_skeleton zero K ≡ kind_skeleton zero L
  pub state : made new ≡ with_equations (kind_equations Σ old.locals K L) (made old)

-- the type at a binder was compared with the expected one
abbrev pub ChecksDomain : List Entry → List ℕ → WrittenDomain → LfType → Elaboration → Elaboration → Type 0
ChecksDomain es frees d A old new = (s : State) × (X : LfType) × ElaboratesDomain es frees old.locals d (made old) s X × (skeleton X ≡ skeleton A) × (made new ≡ with_equations (type_equations (signature_of es) old.locals X A) s)

-- the kind takes an argument
pub record IsProduct (K : Kind) : Type 0 where
  pub domain : LfType
  pub range : Kind
  pub is : K ≡ kind_pi domain range
