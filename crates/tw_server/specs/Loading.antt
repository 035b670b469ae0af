-- What the commands that load files and show declarations reply.
use Rattle.std.specs.Prelude.{◌≡◌, ◌⊎◌, ℕ, zero, suc, ◌≤◌, List, [], ◌++◌, length, codes, Bool, true, false, None, Some}
use Rattle.std.specs.declared.option.Option.{Option}
use Rattle.tw_decl.specs.Declaration.{AcceptsFrom, HasCauseFrom, HasNoMore}
use Rattle.tw_decl.specs.Refusals.{refusal_line}
use Rattle.tw_decl.specs.Reports.{Reported}
use Rattle.tw_decl.specs.View.{View, scene_of}
use Rattle.tw_decl.specs.declared.refusal.Refusal.{Refusal}
use Rattle.tw_ports.specs.Files.{Held, Tells, Within, FileCounts}
use Rattle.tw_ports.specs.declared.files.FileAnswer.{FileAnswer}
use Rattle.tw_ports.specs.declared.files.FileAnswer.TheVariants.{Found, Absent, TooLong, Failed, NoMemory}
use Rattle.tw_print.specs.Shown.{line_of}
use Rattle.tw_server.specs.Replies.{accepted, refused, last_line, no_memory, no_file, file_fault, file_long, unknown_name, opening, closing}
use Rattle.tw_server.specs.State.{State}
use Rattle.tw_signature.specs.Names.{number_of}
use Rattle.tw_server.specs.Limits.{text_limit}

-- Want of memory may be the reply in place of another, and changes nothing.
pub record WantsMemory (v : View) (reply : List ℕ) (w : View) : Type 0 where
  pub says : reply ≡ no_memory ++ refused
  pub same : w ≡ v

-- Declarations of a text, one behind the other from one byte to another, are accepted, each over what the one before it left; the lines are those of their reports.
pub data Declares (text : List ℕ) (v : View) (from : ℕ) : List ℕ → View → ℕ → Type 0 where
  no_more : Declares text v from [] v from
  one_more : {lines : List ℕ} {report : Reported} {u w : View} {mid upto : ℕ} → Declares text v from lines u mid → AcceptsFrom u text mid report upto w → Declares text v from (lines ++ report.text) w upto

-- How the declarations of a file end: all went well, and none is left; or one is refused, of which the line is shown. Want of memory is a refusal too.
abbrev pub EndsFile : List ℕ → List ℕ → View → ℕ → List ℕ → Bool → Type 0
EndsFile name text u upto shown true = HasNoMore text upto × (shown ≡ [])
EndsFile name text u upto shown false = (refusal : Refusal) × HasCauseFrom u text upto refusal × (shown ≡ refusal_line name refusal)

-- A file is opened, and its declarations are made in order up to the first refusal. Those before it stay. These are its lines, and whether all went well.
pub record Opens (v : View) (name text lines : List ℕ) (well : Bool) (w : View) : Type 0 where
  pub reports : List ℕ
  pub upto : ℕ
  pub shown : List ℕ
  pub makes : Declares text v 0 reports w upto
  pub ends : EndsFile name text w upto shown well
  pub says : lines ≡ (opening name ++ reports) ++ (shown ++ closing name)

-- A file isn't opened: one line says why, and nothing has changed.
pub record IsNotOpened (line : List ℕ) (v : View) (lines : List ℕ) (well : Bool) (w : View) : Type 0 where
  pub says : lines ≡ line
  pub ill : well ≡ false
  pub same : w ≡ v

-- the lines of a file by the answer of the files, and whether all went well
abbrev pub AnswersFile : View → List ℕ → FileAnswer → List ℕ → Bool → View → Type 0
AnswersFile v name (Found text) lines well w = IsNotOpened no_memory v lines well w ⊎ Opens v name text.items lines well w
AnswersFile v name Absent lines well w = IsNotOpened (no_file name) v lines well w
AnswersFile v name TooLong lines well w = IsNotOpened (file_long name) v lines well w
AnswersFile v name Failed lines well w = IsNotOpened (file_fault name) v lines well w
AnswersFile v name NoMemory lines well w = IsNotOpened no_memory v lines well w

-- A file is loaded, with these lines: the files are asked for it once, for no more bytes than a file may have, and none with more is found; their count of
-- faults rises where they failed. `held` is what they held at first, where they told it.
pub record LoadsFile (held : Option Held) (name : List ℕ) (v : State) (lines : List ℕ) (well : Bool) (w : State) : Type 0 where
  pub answer : FileAnswer
  pub tells : Tells held name text_limit answer
  pub within : Within text_limit answer
  pub counts : FileCounts v.faults w.faults answer
  pub says : AnswersFile v.view name answer lines well w.view

-- A file is loaded by a command of its own: the reply is its lines, and one last line.
pub record LoadsAlone (held : Option Held) (name : List ℕ) (v : State) (reply : List ℕ) (w : State) : Type 0 where
  pub lines : List ℕ
  pub well : Bool
  pub loads : LoadsFile held name v lines well w
  pub says : reply ≡ lines ++ last_line well

-- the newest declaration of a name is shown, or there is none
abbrev pub ShowsNumber : View → List ℕ → Option ℕ → List ℕ → Type 0
ShowsNumber v name None reply = reply ≡ unknown_name name ++ refused
ShowsNumber v name (Some c) reply = reply ≡ (line_of (scene_of v) c ++ codes "\n") ++ accepted

abbrev pub ShowsEntry : View → List ℕ → List ℕ → View → Type 0
ShowsEntry v name reply w = WantsMemory v reply w ⊎ (ShowsNumber v name (number_of v.signature name) reply × (w ≡ v))

-- the lines of the first entries, as many as this
abbrev pub first_lines : View → ℕ → List ℕ
first_lines v zero = []
first_lines v (suc n) = first_lines v n ++ (line_of (scene_of v) n ++ codes "\n")

-- Every declaration is shown in order. Where memory is wanting, the lines of some stand before that.
pub record ShowsSome (v : View) (reply : List ℕ) (w : View) : Type 0 where
  pub count : ℕ
  pub few : count ≤ length v.signature
  pub says : reply ≡ first_lines v count ++ (no_memory ++ refused)
  pub same : w ≡ v

abbrev pub ShowsSignature : View → List ℕ → View → Type 0
ShowsSignature v reply w = ShowsSome v reply w ⊎ ((reply ≡ first_lines v (length v.signature) ++ accepted) × (w ≡ v))
