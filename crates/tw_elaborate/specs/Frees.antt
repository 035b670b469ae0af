-- Free variables, between the values of the program before and after.
use Rattle.std.specs.Prelude.{◌≡◌, ℕ, List, []}
use Rattle.lf.specs.Entries.{Entry}
use Rattle.lf.specs.Syntax.{LfType, Skeleton}
use Rattle.lf_elaboration.specs.Elaboration.{NewType}
use Rattle.lf_elaboration.specs.State.{State, with_metavariable}
use Rattle.tw_elaborate.specs.declared.state.Elaboration.{Elaboration}
use Rattle.tw_elaborate.specs.View.{made}

-- m is a new metavariable of the most general type of the skeleton t, in the empty context
pub record IsNewFree (es : List Entry) (t : Skeleton) (m : ℕ) (old new : Elaboration) : Type 0 where
  pub of_type : LfType
  pub between : State
  pub type_made : NewType es [] t (made old) between of_type
  pub number : m ≡ between.next
  pub state : made new ≡ with_metavariable [] of_type between
