-- Laws of runs.
use Rattle.std.specs.Prelude.{◌≡◌, ◌≢◌, ◌⊎◌, ℕ, ◌^◌, ◌-◌, ◌<◌, ◌≤◌, List, ◌++◌, length, Bool, true, Some}
use Rattle.std.specs.declared.option.Option.{Option}
use Rattle.tw_decl.specs.View.{IsSound}
use Rattle.tw_server.specs.State.{State}
use Rattle.tw_ports.specs.Files.{Held}
use Rattle.tw_server.specs.Counts.{StatusCounts}
use Rattle.tw_server.specs.Machine.{Step}
use Rattle.tw_server.specs.Phases.{Phase}
use Rattle.tw_server.specs.Outcome.{Serves, AreGoodWords}
use Rattle.tw_server.specs.declared.status.Status.{Status}
use Rattle.tw_server.specs.declared.status.Status.TheVariants.{Done, NoMemory, InputLong}
use Rattle.tw_server.specs.Limits.{input_limit}

-- an input of no more than input_limit bytes is never too long
abbrev pub ShortIsNotLong : Type 0
ShortIsNotLong = (held : Option Held) (words : List (List ℕ)) (input : List ℕ) (left' written written' : Option (List ℕ)) (v w : State) (status : Status)
    → length input ≤ input_limit → Serves held words (Some input) left' written written' v status w → status ≢ InputLong

-- with good words, unchanged counts of faults below their last value and no more than input_limit bytes, a run is done, or memory is wanting before it
abbrev pub FaultlessIsDone : Type 0
FaultlessIsDone = (held : Option Held) (words : List (List ℕ)) (input : List ℕ) (left' written written' : Option (List ℕ)) (v w : State) (status : Status) (read_faults write_faults : ℕ)
    → AreGoodWords words → length input ≤ input_limit → read_faults < 2 ^ 64 - 1 → write_faults < 2 ^ 64 - 1 → StatusCounts read_faults read_faults write_faults write_faults status
    → Serves held words (Some input) left' written written' v status w → (status ≡ Done) ⊎ (status ≡ NoMemory)

-- two steps on whole lines at the front of one input, where the same is read next, take the same bytes
abbrev pub OneReading : Type 0
OneReading = (held held' : Option Held) (phase next next' : Phase) (v v' w w' : State) (took took' more more' reply reply' : List ℕ)
    → Step held true phase v took reply next w → Step held' true phase v' took' reply' next' w' → took ++ more ≡ took' ++ more' → took ≡ took'

-- a step keeps the view sound
abbrev pub StepKeepsSound : Type 0
StepKeepsSound = (held : Option Held) (whole : Bool) (phase next : Phase) (v w : State) (took reply : List ℕ) → Step held whole phase v took reply next w → IsSound v.view → IsSound w.view
