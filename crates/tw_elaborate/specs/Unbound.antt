-- A store as elaboration leaves it.
use Rattle.std.specs.Prelude.{◌≡◌, ℕ, [], Some, length, slice_get}
use Rattle.lf.specs.Syntax.{Term}
use Rattle.tw_metas.specs.State.{Declaration, State, value_of}

-- each metavariable stands in the empty context, none is bound, and no equation is postponed
pub record NothingBound (s : State) : Type 0 where
  pub places : length s.values ≡ length s.declared
  pub contexts : (m : ℕ) (d : Declaration) → slice_get s.declared m ≡ Some d → d.context ≡ []
  pub no_value : (m : ℕ) (N : Term) → value_of s m ≡ Some N → ⊥
  pub none_bound : s.bound ≡ []
  pub none_postponed : s.equations ≡ []
