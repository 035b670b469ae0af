-- What the calls that load files and show declarations come to. The proofs of the loop need these; the transcript theorem doesn't speak of them.
use Rattle.std.specs.Prelude.{◌≡◌, ◌⊎◌, ◌↔◌, ℕ, ◌≤◌, ◌<◌, List, [], ◌++◌, length, Contains, Bool, false}
use Rattle.std.specs.declared.option.Option.{Option}
use Rattle.std.specs.declared.result.Result.{Result}
use Rattle.lf.specs.Entries.{signature_of}
use Rattle.lf.specs.Subordination.{Below}
use Rattle.tw_decl.specs.Refusals.{refusal_line}
use Rattle.tw_decl.specs.View.{View}
use Rattle.tw_decl.specs.declared.refusal.Refusal.{Refusal}
use Rattle.tw_lexer.specs.Places.{place_of}
use Rattle.tw_lexer.specs.declared.place.Place.{Place}
use Rattle.tw_ports.specs.Files.{Held}
use Rattle.tw_ports.specs.Ports.{Gains}
use Rattle.tw_server.specs.Loading.{Declares, Opens, IsNotOpened, LoadsFile, LoadsAlone, ShowsEntry, ShowsSignature}
use Rattle.tw_server.specs.Machine.{Answers}
use Rattle.tw_server.specs.Replies.{no_memory, opening}
use Rattle.tw_server.specs.State.{State}
use Rattle.tw_server.specs.Subordination.{LinesBelow, ShowsSubordination}
use Rattle.tw_subord.specs.Rows.{row}
use Rattle.tw_server.specs.Words as words
use Rattle.tw_server.specs.Written.{GainsLines, GainsReply}

-- a refusal's line was written, or that memory is wanting for it, with the end of a file
abbrev pub IsRefusedWith : {E : Type 0} → Refusal → List ℕ → List ℕ → Option (List ℕ) → Option (List ℕ) → Result Bool E → Type 0
IsRefusedWith refusal name closing old new result = (shown : List ℕ) × ((shown ≡ refusal_line name refusal) ⊎ (shown ≡ no_memory)) × GainsLines old new (shown ++ closing) false result

-- a file was opened, and some lines of it written
abbrev pub IsOpened : {E : Type 0} → View → List ℕ → List ℕ → Option (List ℕ) → Option (List ℕ) → View → Result Bool E → Type 0
IsOpened v name text old new w result = (lines : List ℕ) × (well : Bool) × (IsNotOpened no_memory v lines well w ⊎ Opens v name text lines well w) × GainsLines old new lines well result

-- a file was loaded, and some lines of it written
abbrev pub HasLines : {E : Type 0} → Option Held → List ℕ → State → Option (List ℕ) → Option (List ℕ) → State → Result Bool E → Type 0
HasLines held name v old new w result = (lines : List ℕ) × (well : Bool) × LoadsFile held name v lines well w × GainsLines old new lines well result

-- the same by a command, and some reply to it written
abbrev pub IsLoaded : {E : Type 0} → Option Held → List ℕ → State → Option (List ℕ) → Option (List ℕ) → State → Result (Unit {0}) E → Type 0
IsLoaded held name v old new w result = (reply : List ℕ) × LoadsAlone held name v reply w × GainsReply old new reply result

-- a declaration was shown, or all of them
abbrev pub IsShown : {E : Type 0} → View → List ℕ → Option (List ℕ) → Option (List ℕ) → Result (Unit {0}) E → Type 0
IsShown v name old new result = (reply : List ℕ) × ShowsEntry v name reply v × GainsReply old new reply result

abbrev pub AreShown : {E : Type 0} → View → Option (List ℕ) → Option (List ℕ) → Result (Unit {0}) E → Type 0
AreShown v old new result = (reply : List ℕ) × ShowsSignature v reply v × GainsReply old new reply result

-- the rows have for each entry the families below it
abbrev pub Lists : View → List (List ℕ) → Type 0
Lists v rows = (a b : ℕ) → b < length v.signature → (Contains (row rows b) a) ↔ Below (signature_of v.signature) v.checked.blocks a b

-- for each family those below it were shown
abbrev pub IsSubordinationShown : {E : Type 0} → View → Option (List ℕ) → Option (List ℕ) → Result (Unit {0}) E → Type 0
IsSubordinationShown v old new result = (reply : List ℕ) × ShowsSubordination v reply v × GainsReply old new reply result

-- the lines of the first entries were written, as many as this
pub record BelowSoFar (v : View) (n : ℕ) (old new : Option (List ℕ)) : Type 0 where
  pub lines : List ℕ
  pub shows : LinesBelow v n lines
  pub gains : Gains old new lines

-- the declarations of a file so far, each of which was reported
pub record LoadedSoFar (v : View) (name text : List ℕ) (old new : Option (List ℕ)) (w : View) (from : ℕ) (at : Place) : Type 0 where
  pub lines : List ℕ
  pub makes : Declares text v 0 lines w from
  pub gains : Gains old new (opening name ++ lines)
  pub within : from ≤ length text
  pub place : at ≡ place_of text from

-- a command of one line was carried out, and some reply to it written
abbrev pub IsAnswered : {E : Type 0} → Option Held → State → words.Said → Option (List ℕ) → Option (List ℕ) → State → Result (Unit {0}) E → Type 0
IsAnswered held v said old new w result = (reply : List ℕ) × Answers held v said [] reply w × GainsReply old new reply result
