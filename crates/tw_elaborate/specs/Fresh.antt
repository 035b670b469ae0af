-- Metavariables that are new, between the values of the program before and after.
use Rattle.std.specs.Prelude.{◌≡◌}
use Rattle.lf.specs.Syntax.{Kind, LfType, Term, kind_pi, pi}
use Rattle.lf.specs.Typing.{instantiate_kind, instantiate_type}
use Rattle.lf_elaboration.specs.State.{with_metavariable}
use Rattle.lf_unification.specs.Offering.{raised}
use Rattle.tw_open.specs.Fresh.{OnlyDeclares}
use Rattle.tw_elaborate.specs.declared.state.Elaboration.{Elaboration}
use Rattle.tw_elaborate.specs.View.{made}

-- the variables in scope stay, and the store only grows
pub record Keeps (old new : Elaboration) : Type 0 where
  pub locals : new.locals ≡ old.locals
  pub store : OnlyDeclares old.store new.store

-- M is a new metavariable of type A at the variables in scope
pub record IsNew (A : LfType) (M : Term) (old new : Elaboration) : Type 0 where
  pub state : made new ≡ with_metavariable old.locals A (made old)
  pub term : M ≡ raised old.locals A (made old).next

-- M is a new metavariable for the first argument of X, and Y the type that is left
pub record TakesOne (X : LfType) (M : Term) (Y : LfType) (old new : Elaboration) : Type 0 where
  pub domain : LfType
  pub range : LfType
  pub is : X ≡ pi domain range
  pub fresh : IsNew domain M old new
  pub left_over : Y ≡ instantiate_type domain M range

-- the same of a kind
pub record KindTakesOne (K : Kind) (M : Term) (L : Kind) (old new : Elaboration) : Type 0 where
  pub domain : LfType
  pub range : Kind
  pub is : K ≡ kind_pi domain range
  pub fresh : IsNew domain M old new
  pub left_over : L ≡ instantiate_kind domain M range
