-- What a command line means.
use Rattle.std.specs.Prelude.{◌≡◌, ℕ, Bool, true, false, List, [], ◌∷◌, codes, ⊤, None, Some, Ok, Err, if◌then◌else◌}
use Rattle.std.specs.Str.{bytes_eq, is_utf8, IsUtf8}
use Rattle.std.specs.declared.option.Option.{Option}
use Rattle.std.specs.declared.result.Result.{Result}
use Rattle.tw_command.specs.Limits.{steps_limit}
use Rattle.tw_command.specs.Words.{words_of}
use Rattle.tw_command.specs.Numbers.{number_of, in_range}
use Rattle.tw_command.specs.declared.command.Parameter.{Parameter}
use Rattle.tw_command.specs.declared.command.Parameter.TheVariants as parameters
use Rattle.tw_command.specs.declared.command.Setting.{Setting}
use Rattle.tw_command.specs.declared.command.Setting.TheVariants as settings
use Rattle.tw_command.specs.declared.command.Command.{Command}
use Rattle.tw_command.specs.declared.command.Command.TheVariants as commands
use Rattle.tw_command.specs.declared.command.CommandFault.{CommandFault}
use Rattle.tw_command.specs.declared.command.CommandFault.TheVariants as faults

-- what a line can say; a name is its bytes
pub data Meaning : Type 0 where
  blank : Meaning
  unknown : Meaning
  bad_parameter : Meaning
  read_declaration : Meaning
  load_file : List ℕ → Meaning
  show_entry : List ℕ → Meaning
  show_signature : Meaning
  show_subordination : Meaning
  top : Meaning
  reset : Meaning
  set : Setting → Meaning
  get : Parameter → Meaning
  version : Meaning
  quit : Meaning

-- the meaning that a table gives to a word
abbrev pub meaning_in : List (List ℕ × Meaning) → List ℕ → Meaning → Meaning
meaning_in [] word other = other
meaning_in (row ∷ rows) word other = if bytes_eq word row.0 then row.1 else meaning_in rows word other

-- the commands of one word
abbrev pub alone : List (List ℕ × Meaning)
alone =
    (codes "readDecl", read_declaration)
    ∷ (codes "Print.sgn", show_signature)
    ∷ (codes "Print.subord", show_subordination)
    ∷ (codes "top", top)
    ∷ (codes "reset", reset)
    ∷ (codes "version", version)
    ∷ (codes "quit", quit)
    ∷ (codes "OS.exit", quit)
    ∷ []

-- what `get` with this word means
abbrev pub gettable : List (List ℕ × Meaning)
gettable =
    (codes "chatter", get parameters.Chatter)
    ∷ (codes "Print.implicit", get parameters.Implicit)
    ∷ (codes "steps", get parameters.Steps)
    ∷ []

abbrev pub get_means : List ℕ → Meaning
get_means parameter = meaning_in gettable parameter bad_parameter

-- the commands of a word and its argument
abbrev pub with_argument : List ℕ → List (List ℕ × Meaning)
with_argument argument =
    (codes "loadFile", load_file argument)
    ∷ (codes "decl", show_entry argument)
    ∷ (codes "get", get_means argument)
    ∷ []

-- a truth value's word
abbrev pub truth_of : List ℕ → Option Bool
truth_of word = if bytes_eq word (codes "true") then Some true else if bytes_eq word (codes "false") then Some false else None

-- a parameter is set to a value, where there is one
abbrev pub set_to : {A : Type 0} → (A → Setting) → Option A → Meaning
set_to setting None = bad_parameter
set_to setting (Some value) = set (setting value)

-- what `set` with a parameter and this value means: `chatter` from 0 to 6, a truth value, `steps` from 1 to 1,000,000,000
abbrev pub settable : List ℕ → List (List ℕ × Meaning)
settable value =
    (codes "chatter", set_to (λ n. settings.Chatter n) (in_range 0 6 (number_of value)))
    ∷ (codes "Print.implicit", set_to (λ b. settings.Implicit b) (truth_of value))
    ∷ (codes "steps", set_to (λ n. settings.Steps n) (in_range 1 steps_limit (number_of value)))
    ∷ []

abbrev pub set_means : List ℕ → List ℕ → Meaning
set_means parameter value = meaning_in (settable value) parameter bad_parameter

-- the commands of a word and two arguments
abbrev pub with_two : List ℕ → List ℕ → List (List ℕ × Meaning)
with_two parameter value = (codes "set", set_means parameter value) ∷ []

-- what the words of a line mean
abbrev pub words_mean : List (List ℕ) → Meaning
words_mean [] = blank
words_mean (word ∷ []) = meaning_in alone word unknown
words_mean (word ∷ argument ∷ []) = meaning_in (with_argument argument) word unknown
words_mean (word ∷ first ∷ second ∷ []) = meaning_in (with_two first second) word unknown
words_mean (word ∷ first ∷ second ∷ third ∷ more) = unknown

-- what a line means; one that is no UTF-8 means nothing
abbrev pub line_means : List ℕ → Meaning
line_means line = if is_utf8 line then words_mean (words_of line) else unknown

-- what a command means
abbrev pub command_means : Command → Meaning
command_means commands.ReadDecl = read_declaration
command_means (commands.LoadFile name) = load_file name
command_means (commands.Decl name) = show_entry name
command_means commands.PrintSgn = show_signature
command_means commands.PrintSubord = show_subordination
command_means commands.Top = top
command_means commands.Reset = reset
command_means (commands.Set setting) = set setting
command_means (commands.Get parameter) = get parameter
command_means commands.Version = version
command_means commands.Quit = quit

-- a name is to be kept: only then is memory taken
abbrev pub TakesMemory : Meaning → Type 0
TakesMemory (load_file name) = ⊤
TakesMemory (show_entry name) = ⊤
TakesMemory _ = ⊥

-- a command, or a fault, is what this means
abbrev pub IsCommand : Meaning → Result Command CommandFault → Type 0
IsCommand meaning (Ok command) = meaning ≡ command_means command
IsCommand meaning (Err faults.Unknown) = meaning ≡ unknown
IsCommand meaning (Err faults.BadParameter) = meaning ≡ bad_parameter
IsCommand meaning (Err faults.NoMemory) = TakesMemory meaning

-- a command, nothing, or a fault, is what this means
abbrev pub IsAnswer : Meaning → Result (Option Command) CommandFault → Type 0
IsAnswer meaning (Ok None) = meaning ≡ blank
IsAnswer meaning (Ok (Some command)) = meaning ≡ command_means command
IsAnswer meaning (Err fault) = IsCommand meaning (Err fault)

-- the name that a command keeps is UTF-8
abbrev pub NameIsText : Command → Type 0
NameIsText (commands.LoadFile name) = IsUtf8 name
NameIsText (commands.Decl name) = IsUtf8 name
NameIsText _ = ⊤

-- the same of a command that was read
abbrev pub KeepsText : Result Command CommandFault → Type 0
KeepsText (Ok command) = NameIsText command
KeepsText (Err fault) = ⊤

abbrev pub HasTextOnly : Result (Option Command) CommandFault → Type 0
HasTextOnly (Ok None) = ⊤
HasTextOnly (Ok (Some command)) = NameIsText command
HasTextOnly (Err fault) = ⊤
