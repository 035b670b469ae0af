-- Where the machine is.
use Rattle.std.specs.Prelude.{ℕ}
use Rattle.tw_decl.specs.View.{View}

-- what the session knows, and how often the store of files has failed
pub record State : Type 0 where
  pub view : View
  pub faults : ℕ

abbrev pub state_at : View → ℕ → State
state_at view n = record { view = view; faults = n }
