-- What a call of the server comes to.
use Rattle.std.specs.Prelude.{◌≡◌, ◌≢◌, ◌⊎◌, ℕ, ◌≤◌, List, [], ◌∷◌, ◌++◌, length, Bool, true, false, None, Some}
use Rattle.std.specs.List.{flat_map, AllByRecursion}
use Rattle.std.specs.Io.KnownBytes.{Consumes, IsAtEnd}
use Rattle.std.specs.declared.option.Option.{Option}
use Rattle.tw_ports.specs.Ports.{Gains}
use Rattle.tw_server.specs.Lines.{IsLine, IsOpen, HasNoFeed}
use Rattle.tw_command.specs.Meaning.{read_declaration, quit}
use Rattle.tw_ports.specs.Files.{Held}
use Rattle.tw_words.specs.Words.{AreWords, AreBad}
use Rattle.tw_server.specs.Words.{meant, said_of}
use Rattle.tw_server.specs.Replies.{banner, usage}
use Rattle.tw_decl.specs.View.{IsSound, with_steps}
use Rattle.tw_server.specs.State.{State, state_at}
use Rattle.tw_server.specs.Machine.{LastStep, Step, Turn, Run, Loads, Opening}
use Rattle.tw_server.specs.Phases.{Phase, a_choice, a_command, a_query}
use Rattle.tw_server.specs.declared.status.Status.{Status}
use Rattle.tw_server.specs.declared.status.Status.TheVariants.{Done, BadWords, ReadFault, WriteFault, NoMemory, InputLong}
use Rattle.tw_server.specs.Limits.{input_limit}

-- the words of the program are good: they say how many steps a search may make, if they say it, and which files are to be loaded
abbrev pub AreGoodWords : List (List ℕ) → Type 0
AreGoodWords words = (steps : Option ℕ) × (files : List (List ℕ)) × AreWords words steps files

-- the state with the steps that the words say
abbrev pub with_words : Option ℕ → State → State
with_words None v = v
with_words (Some n) v = state_at (with_steps v.view n) v.faults

-- the first bytes of all, and not all of them
abbrev pub IsCut : List ℕ → List ℕ → Type 0
IsCut part all = (rest : List ℕ) × (all ≡ part ++ rest) × (rest ≢ [])

-- the input has ended: all that was read was looked at, and the source has no more
abbrev pub HasEnded : Option (List ℕ) → List ℕ → Type 0
HasEnded left ahead = (ahead ≡ []) × IsAtEnd left

-- the bytes are the line that ends the run
pub record IsQuit (left : Option (List ℕ)) (ahead bytes : List ℕ) : Type 0 where
  pub whole : Bool
  pub body : List ℕ
  pub line : IsLine whole bytes body
  pub says : said_of body ≡ meant quit
  pub at_end : whole ≡ false → HasEnded left ahead

-- No step is whole in these bytes: a line without its line feed, or the begin of a declaration or of a query.
abbrev pub IsUnfinished : Phase → List ℕ → Type 0
IsUnfinished a_command bytes = HasNoFeed bytes
    ⊎ ((line body text rest : List ℕ) × (bytes ≡ line ++ text) × IsLine true line body × (said_of body ≡ meant read_declaration) × IsOpen text rest)
IsUnfinished a_query bytes = (rest : List ℕ) × IsOpen bytes rest
IsUnfinished (a_choice waiting) bytes = HasNoFeed bytes

-- what came of the bytes after the last whole step, where they break off: nothing
pub record BreaksOff (phase : Phase) (v : State) (tail last : List ℕ) (w : State) : Type 0 where
  pub unfinished : IsUnfinished phase tail
  pub silent : last ≡ []
  pub same : w ≡ v

-- a step on whole lines, or the last one
abbrev pub Replies : Option Held → Bool → Phase → State → List ℕ → List ℕ → State → Type 0
Replies held true phase v took reply w = (next : Phase) × Step held true phase v took reply next w
Replies held false phase v took reply w = LastStep held phase v took reply w

-- The step was made, and its reply written in part. Where the lines of a file are being written, it is a step that wanted memory behind the declarations that were made: what was written is the first part of its reply. A body that takes a declaration back where its report can't be written passes too, as a step that wanted memory.
pub record IsCutShort (held : Option Held) (left : Option (List ℕ)) (phase : Phase) (v : State) (tail last : List ℕ) (w : State) (ahead : List ℕ) : Type 0 where
  pub whole : Bool
  pub reply : List ℕ
  pub step : Replies held whole phase v tail reply w
  pub cut : IsCut last reply
  pub at_end : whole ≡ false → HasEnded left ahead

-- How a run ends, after its last whole step. The tail is what was looked at then, last what was written for it; ahead was read from the source and not looked at; so many bytes were looked at in all.
abbrev pub Ends : Option Held → Option (List ℕ) → Status → Phase → State → List ℕ → List ℕ → State → List ℕ → ℕ → Type 0
-- `quit` where a command is read, or the end of the input, with the step that it cuts short
Ends held left Done phase v tail last w ahead looked =
    ((phase ≡ a_command) × IsQuit left ahead tail × (last ≡ []) × (w ≡ v)) ⊎ (LastStep held phase v tail last w × HasEnded left ahead)
-- all that was read is whole steps and less than one more
Ends held left ReadFault phase v tail last w ahead looked = BreaksOff phase v tail last w × (ahead ≡ [])
Ends held left InputLong phase v tail last w ahead looked = BreaksOff phase v tail last w × (ahead ≢ []) × (looked ≡ input_limit)
Ends held left WriteFault phase v tail last w ahead looked = IsCutShort held left phase v tail last w ahead
Ends held left NoMemory phase v tail last w ahead looked = ⊥
Ends held left BadWords phase v tail last w ahead looked = ⊥

-- A run of the session from v to w: it took these bytes from the source, and gained is its transcript. The files of the words come first.
pub record Ran (held : Option Held) (files : List (List ℕ)) (left : Option (List ℕ)) (status : Status) (v : State) (taken gained : List ℕ) (w : State) : Type 0 where
  pub opened : List Turn
  pub begun : State
  pub turns : List Turn
  pub phase : Phase
  pub mid : State
  pub tail : List ℕ
  pub last : List ℕ
  pub ahead : List ℕ
  pub opening : Opening held files v opened begun
  pub run : Run held a_command begun turns phase mid
  pub ends : Ends held left status phase mid tail last w ahead (length (flat_map (λ t. t.took) turns ++ tail))
  pub read : taken ≡ (flat_map (λ t. t.took) turns ++ tail) ++ ahead
  pub wrote : gained ≡ ((banner ++ flat_map (λ t. t.reply) opened) ++ flat_map (λ t. t.reply) turns) ++ last
  pub within : length (flat_map (λ t. t.took) turns ++ tail) ≤ input_limit
  -- after each file and each command the signature is canonical LF, its blocks are typed, and those of the worlds are among them
  pub sound_opened : AllByRecursion (λ t. IsSound t.after.view) opened
  pub sound : AllByRecursion (λ t. IsSound t.after.view) turns

-- A write failed while the files of the words were loaded: of the reply for one of them the first part was written, and nothing was read.
pub record IsCutOpening (held : Option Held) (files : List (List ℕ)) (v : State) (taken gained : List ℕ) (w : State) : Type 0 where
  pub front : List (List ℕ)
  pub name : List ℕ
  pub rest : List (List ℕ)
  pub opened : List Turn
  pub begun : State
  pub reply : List ℕ
  pub last : List ℕ
  pub among : files ≡ front ++ name ∷ rest
  pub opening : Opening held front v opened begun
  pub loads : Loads held name begun reply w
  pub cut : IsCut last reply
  pub wrote : gained ≡ (banner ++ flat_map (λ t. t.reply) opened) ++ last
  pub nothing_read : taken ≡ []

-- nothing was read, and nothing of the session changed
pub record IsUntouched (v : State) (taken : List ℕ) (w : State) : Type 0 where
  pub nothing_read : taken ≡ []
  pub same : w ≡ v

-- What a call with good words comes to behind the banner, by its status. The words are said once: the steps, and the files.
abbrev pub RanTo : Option Held → List (List ℕ) → Option (List ℕ) → Status → State → List ℕ → List ℕ → State → Type 0
RanTo held words left status v taken gained w = (steps : Option ℕ) × (files : List (List ℕ)) × AreWords words steps files × Ran held files left status (with_words steps v) taken gained w

abbrev pub CutOpening : Option Held → List (List ℕ) → State → List ℕ → List ℕ → State → Type 0
CutOpening held words v taken gained w = (steps : Option ℕ) × (files : List (List ℕ)) × AreWords words steps files × IsCutOpening held files (with_words steps v) taken gained w

-- what the call comes to, by its status
abbrev pub Outcome : Option Held → List (List ℕ) → Option (List ℕ) → Status → State → List ℕ → List ℕ → State → Type 0
Outcome held words left BadWords v taken gained w = AreBad words × (gained ≡ usage) × IsUntouched v taken w
Outcome held words left NoMemory v taken gained w = (gained ≡ []) × IsUntouched v taken w
Outcome held words left WriteFault v taken gained w =
    (AreBad words × IsCut gained usage × IsUntouched v taken w)
    ⊎ (AreGoodWords words × IsCut gained banner × IsUntouched v taken w)
    ⊎ CutOpening held words v taken gained w
    ⊎ RanTo held words left WriteFault v taken gained w
Outcome held words left Done v taken gained w = RanTo held words left Done v taken gained w
Outcome held words left ReadFault v taken gained w = RanTo held words left ReadFault v taken gained w
Outcome held words left InputLong v taken gained w = RanTo held words left InputLong v taken gained w

-- THE TRANSCRIPT THEOREM. The call took these bytes from the source and gave these to the sink, where they tell; they are those of one run
-- of the session over the files, whose signature is canonical LF on entry, after each file and each command, and on return.
pub record Serves (held : Option Held) (words : List (List ℕ)) (left left' written written' : Option (List ℕ)) (v : State) (status : Status) (w : State) : Type 0 where
  pub taken : List ℕ
  pub gained : List ℕ
  pub consumed : Consumes left left' taken
  pub gains : Gains written written' gained
  pub outcome : Outcome held words left' status v taken gained w
  pub sound_before : IsSound v.view
  pub sound_after : IsSound w.view
