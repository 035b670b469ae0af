-- What one turn of the loop comes to. The proof of the loop needs these; the transcript theorem doesn't speak of them.
use Rattle.std.specs.Prelude.{◌≡◌, ◌≢◌, ◌⊎◌, ℕ, ◌<◌, ◌≤◌, List, [], ◌∷◌, ◌++◌, length, Bool, true, false, Ok, Err}
use Rattle.std.specs.List.{flat_map}
use Rattle.std.specs.declared.option.Option.{Option}
use Rattle.std.specs.declared.result.Result.{Result}
use Rattle.tw_ports.specs.Ports.{Gains}
use Rattle.tw_server.specs.Lines.{IsText}
use Rattle.tw_command.specs.Meaning.{quit}
use Rattle.tw_ports.specs.Files.{Held}
use Rattle.std.specs.Io.KnownBytes.{Consumes}
use Rattle.tw_server.specs.Words.{meant, said_of}
use Rattle.tw_decl.specs.View.{View}
use Rattle.tw_server.specs.State.{State}
use Rattle.tw_server.specs.Feed.{Pending, Sees}
use Rattle.tw_server.specs.Written.{GainsReply}
use Rattle.tw_server.specs.Machine.{LastStep, Step, Turn, Run, RepliesTo, Loads, Opening}
use Rattle.tw_server.specs.Phases.{Phase, a_command}
use Rattle.tw_server.specs.Playing.{IsPhase}
use Rattle.tw_server.specs.declared.phase.Phase.{Phase as Kept}
use Rattle.tw_server.specs.Outcome.{Ends, IsCut, HasEnded}
use Rattle.tw_server.specs.declared.status.Status.{Status}
use Rattle.tw_server.specs.declared.status.Status.TheVariants.{Done, BadWords, ReadFault, WriteFault, NoMemory, InputLong}
use Rattle.tw_server.specs.Limits.{input_limit}

-- some reply to the text was written
abbrev pub Answered : {E : Type 0} → Option (List ℕ) → Option (List ℕ) → View → List ℕ → View → Result (Unit {0}) E → Type 0
Answered old new v text w result = (reply : List ℕ) × RepliesTo v text reply w × GainsReply old new reply result

-- the declaration was made, and its reply written in part
pub record IsDeclCut (left : Option (List ℕ)) (ahead : List ℕ) (v : View) (text last : List ℕ) (w : View) : Type 0 where
  pub whole : Bool
  pub reply : List ℕ
  pub reads : IsText whole text
  pub replies : RepliesTo v text reply w
  pub cut : IsCut last reply
  pub at_end : whole ≡ false → HasEnded left ahead

-- a declaration behind a whole line: its text, and what came of it
abbrev pub DeclTurn : Option (List ℕ) → Pending → Result (Unit {0}) Status → View → List ℕ → List ℕ → View → Type 0
DeclTurn left feed (Ok done) v text last w = IsText true text × RepliesTo v text last w
DeclTurn left feed (Err Done) v text last w = IsText false text × RepliesTo v text last w × HasEnded left feed.held
DeclTurn left feed (Err ReadFault) v text last w = IsText false text × (last ≡ []) × (w ≡ v) × (feed.held ≡ [])
DeclTurn left feed (Err InputLong) v text last w = IsText false text × (last ≡ []) × (w ≡ v) × (feed.held ≢ []) × (feed.seen ≡ input_limit)
DeclTurn left feed (Err WriteFault) v text last w = IsDeclCut left feed.held v text last w
DeclTurn left feed (Err NoMemory) v text last w = ⊥
DeclTurn left feed (Err BadWords) v text last w = ⊥

-- what was looked at and written in a call, by what it comes to
pub record Moves (old : Pending) (left : Option (List ℕ)) (new : Pending) (left' written written' : Option (List ℕ)) (P : List ℕ → List ℕ → Type 0) : Type 0 where
  pub took : List ℕ
  pub last : List ℕ
  pub sees : Sees old left new left' took
  pub within : new.seen ≤ input_limit
  pub gains : Gains written written' last
  pub outcome : P took last

-- one turn of the loop: a step, and the program knows what is read behind it; or the end of the run
abbrev pub TurnOf : Option Held → Option (List ℕ) → Pending → Result Kept Status → Phase → State → List ℕ → List ℕ → State → Type 0
TurnOf held left feed (Ok kept) phase v took reply w = (next : Phase) × IsPhase w.view.signature kept next × Step held true phase v took reply next w × (0 < length took)
TurnOf held left feed (Err status) phase v took last w = Ends held left status phase v took last w feed.held feed.seen

-- the command on the line that the end of the input cuts short
abbrev pub LastTurn : {E : Type 0} → Option Held → Option (List ℕ) → Option (List ℕ) → State → List ℕ → List ℕ → State → Result (Unit {0}) E → Type 0
LastTurn held old new v bytes body w result = (reply : List ℕ) × GainsReply old new reply result × (LastStep held a_command v bytes reply w ⊎ ((said_of body ≡ meant quit) × (reply ≡ []) × (w ≡ v)))

-- the last step was written, or a part of its reply
abbrev pub LastGains : {E : Type 0} → Option Held → Phase → Option (List ℕ) → Option (List ℕ) → State → List ℕ → Result (Unit {0}) E → Type 0
LastGains held phase old new v bytes result = (reply : List ℕ) × GainsReply old new reply result × LastStep held phase v bytes reply v

-- the steps so far, between two turns, and what is read next
pub record RanSoFar (held : Option Held) (left left' written written' : Option (List ℕ)) (v : State) (feed : Pending) (kept : Kept) (now : State) : Type 0 where
  pub turns : List Turn
  pub next : Phase
  pub is_next : IsPhase now.view.signature kept next
  pub run : Run held a_command v turns next now
  pub sees : Sees (record { held = []; seen = 0 }) left feed left' (flat_map (λ t. t.took) turns)
  pub gains : Gains written written' (flat_map (λ t. t.reply) turns)

-- the commands up to the end of the run
pub record Commanded (held : Option Held) (left left' written written' : Option (List ℕ)) (v : State) (status : Status) (w : State) : Type 0 where
  pub turns : List Turn
  pub phase : Phase
  pub mid : State
  pub tail : List ℕ
  pub last : List ℕ
  pub ahead : List ℕ
  pub run : Run held a_command v turns phase mid
  pub ends : Ends held left' status phase mid tail last w ahead (length (flat_map (λ t. t.took) turns ++ tail))
  pub consumed : Consumes left left' ((flat_map (λ t. t.took) turns ++ tail) ++ ahead)
  pub gains : Gains written written' (flat_map (λ t. t.reply) turns ++ last)
  pub within : length (flat_map (λ t. t.took) turns ++ tail) ≤ input_limit

-- files that were loaded, with their replies
pub record OpenedSoFar (held : Option Held) (names : List (List ℕ)) (v : State) (old new : Option (List ℕ)) (w : State) : Type 0 where
  pub turns : List Turn
  pub opening : Opening held names v turns w
  pub gains : Gains old new (flat_map (λ t. t.reply) turns)

-- the reply for one of the files was written in part
pub record IsCutAt (held : Option Held) (names : List (List ℕ)) (v : State) (old new : Option (List ℕ)) (w : State) : Type 0 where
  pub front : List (List ℕ)
  pub name : List ℕ
  pub rest : List (List ℕ)
  pub turns : List Turn
  pub begun : State
  pub reply : List ℕ
  pub last : List ℕ
  pub among : names ≡ front ++ name ∷ rest
  pub opening : Opening held front v turns begun
  pub loads : Loads held name begun reply w
  pub cut : IsCut last reply
  pub gains : Gains old new (flat_map (λ t. t.reply) turns ++ last)

-- all files were loaded, or a write failed
abbrev pub AreOpened : {E : Type 0} → Option Held → List (List ℕ) → State → Option (List ℕ) → Option (List ℕ) → State → Result (Unit {0}) E → Type 0
AreOpened held names v old new w (Ok done) = OpenedSoFar held names v old new w
AreOpened held names v old new w (Err e) = IsCutAt held names v old new w
