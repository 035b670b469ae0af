-- How a store's changes are taken back, the newest first.
use Rattle.std.specs.Prelude.{◌≡◌, ℕ, List, [], ◌∷◌, length, reverse, take, drop, ◌-◌, ◌+◌, ◌<◌, ◌≤◌, Option, None, slice_set}
use Rattle.std.specs.List.{insert}
use Rattle.lf.specs.Syntax.{Term}
use Rattle.tw_metas.specs.State.{State, Story}
use Rattle.tw_metas.specs.View.{kept_equation_of, bound_by}
use Rattle.tw_metas.specs.declared.change.Change.{Change}
use Rattle.tw_metas.specs.declared.change.Change.TheVariants.{Declared, Bound, Postponed, Settled}
use Rattle.tw_metas.specs.declared.contents.Contents.{Contents}

-- without the last of a list
abbrev pub but_last : {A : Type 0} → List A → List A
but_last xs = take (length xs - 1) xs

-- a metavariable's value is set, or taken away; which are bound, and in what order, is said as before
abbrev pub valued : State → ℕ → Option Term → State
valued s m v = record { declared = s.declared; values = slice_set s.values m v; bound = s.bound; equations = s.equations }

-- what was held before a change
abbrev pub undone : Change → State → State
undone Declared s = record { declared = but_last s.declared; values = but_last s.values; bound = s.bound; equations = s.equations }
undone (Bound m) s = record { declared = s.declared; values = slice_set s.values m None; bound = drop 1 s.bound; equations = s.equations }
undone Postponed s = record { declared = s.declared; values = s.values; bound = s.bound; equations = but_last s.equations }
undone (Settled at e) s = record { declared = s.declared; values = s.values; bound = s.bound; equations = insert s.equations at (kept_equation_of e) }

-- what was held before each of the changes, the newest in front
abbrev pub states_before : List Change → State → List State
states_before [] s = []
states_before (c ∷ cs) s = undone c s ∷ states_before cs (undone c s)

abbrev pub story_of : State → List Change → Story
story_of s changes = record { now = s; before = states_before changes s }

-- There is room to take back each of the changes, from so many equations on: a settled one is put back in its place.
abbrev pub HasRoom : ℕ → List Change → ℕ → Type 0
HasRoom capacity [] count = Unit {0}
HasRoom capacity (Declared ∷ cs) count = HasRoom capacity cs count
HasRoom capacity (Bound m ∷ cs) count = HasRoom capacity cs count
HasRoom capacity (Postponed ∷ cs) count = HasRoom capacity cs (count - 1)
HasRoom capacity (Settled at e ∷ cs) count = (at ≤ count) × (count < capacity) × HasRoom capacity cs (count + 1)

-- the bound metavariables are counted rightly
abbrev pub IsCounted : Contents → Type 0
IsCounted c = c.bound ≡ length (bound_by (reverse c.trail.items))
