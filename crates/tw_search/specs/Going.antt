-- What a step of the engine comes to, and how many there can be.
use Rattle.std.specs.Prelude.{◌≡◌, ℕ, ◌+◌, ◌-◌, ◌*◌, ◌≤◌, List, length, Option, Some, None}
use Rattle.lf.specs.Entries.{Entry}
use Rattle.lf.specs.Syntax.{Head, LfType}
use Rattle.lf_unification.specs.Search.{Pending}
use Rattle.tw_search.specs.Standing.{Came, GaveOut, IsAt, IsTakenUp, TriesHead, WentOn, choices_of}
use Rattle.tw_search.specs.declared.search.Search.{Search}
use Rattle.tw_search.specs.declared.step.Choice.{Choice}
use Rattle.tw_search.specs.declared.step.Place.{Place}
use Rattle.tw_search.specs.declared.step.Place.TheVariants as place
use Rattle.tw_search.specs.declared.step.Step.{Step}
use Rattle.tw_search.specs.declared.step.Step.TheVariants as step
use Rattle.tw_search.specs.declared.step.Stop.{Stop}
use Rattle.tw_search.specs.declared.step.Stop.TheVariants as stop

-- what is shown where a search stops
abbrev pub step_of : Stop → Step
step_of stop.Exhausted = step.Exhausted
step_of stop.Budget = step.Budget
step_of stop.TooDeep = step.TooDeep

-- from an agenda: it went on, where nothing is to be shown yet, or it came to what is shown, up to so many tries
abbrev pub GoesFrom : List Entry → ℕ → Search → Search → Option Step → List Pending → Type 0
GoesFrom es last old new None agenda = WentOn es old new agenda
GoesFrom es last old new (Some s) agenda = (G : List LfType) → length G ≡ old.variables → Came es G old new agenda (last - old.tries) s

-- from where the search is
abbrev pub Goes : List Entry → ℕ → Search → Search → Option Step → Type 0
Goes es last old new o = (agenda : List Pending) → IsAt es old agenda → GoesFrom es last old new o agenda

-- from a choice point that is taken up
abbrev pub GoesUp : List Entry → ℕ → Search → Search → Choice → Option Step → Type 0
GoesUp es last old new c o = (agenda : List Pending) → IsTakenUp es old c agenda → GoesFrom es last old new o agenda

-- from a choice point whose next head is tried
abbrev pub Tried : List Entry → ℕ → Search → Search → Choice → Head → Option Step → Type 0
Tried es last old new c h o = (agenda : List Pending) → TriesHead es old c h agenda → GoesFrom es last old new o agenda

-- a node costs one step more than its choice point
abbrev pub place_weight : Place → ℕ
place_weight (place.Node list) = 2
place_weight place.Heads = 0
place_weight (place.Over e) = 0

-- how many steps of the engine are left at most, up to so many tries
abbrev pub steps_left : ℕ → Search → ℕ
steps_left last s = 3 * (last - s.tries) + length (choices_of s) + place_weight s.place

-- where there is nothing to show yet, fewer than so many steps are left, and no try too many was made
abbrev pub IsBelow : ℕ → ℕ → Search → Option Step → Type 0
IsBelow steps last new None = (steps_left last new + 1 ≤ steps) × (new.tries ≤ last)
IsBelow steps last new (Some s) = Unit {0}

-- fewer steps are left
abbrev pub Nears : ℕ → Search → Search → Option Step → Type 0
Nears last old new o = IsBelow (steps_left last old) last new o

-- fewer steps are left than with the choice point that was taken up
abbrev pub NearsBelow : ℕ → Search → Search → Option Step → Type 0
NearsBelow last old new o = IsBelow (3 * (last - old.tries) + (length (choices_of old) + 1)) last new o

-- memory gave out on the way from where the search is
abbrev pub GivesOut : List Entry → ℕ → Search → Search → Type 0
GivesOut es last old new = (agenda : List Pending) → IsAt es old agenda → GaveOut es old new agenda last

-- from a choice point that is taken up
abbrev pub GivesOutUp : List Entry → ℕ → Search → Search → Choice → Type 0
GivesOutUp es last old new c = (agenda : List Pending) → IsTakenUp es old c agenda → GaveOut es old new agenda last

-- from a choice point whose next head is tried
abbrev pub GivesOutTrying : List Entry → ℕ → Search → Search → Choice → Head → Type 0
GivesOutTrying es last old new c h = (agenda : List Pending) → TriesHead es old c h agenda → GaveOut es old new agenda last
