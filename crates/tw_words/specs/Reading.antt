-- How the words are read: an option `--steps` with a value, given at most once, and files at any place.
use Rattle.std.specs.Prelude.{ℕ, Bool, true, false, List, [], ◌∷◌, ◌++◌, None, Some, codes, if◌then◌else◌}
use Rattle.std.specs.Str.{bytes_eq}
use Rattle.std.specs.declared.option.Option.{Option}
use Rattle.clap.specs.Lexer.{long_of, short_of}

-- what a word is, where no `--` stands before it
pub data Kind : Type 0 where
  -- `--`: every word behind it is a file
  ending : Kind
  -- `--steps`, with the value that an `=` attaches to it
  steps_option : Option (List ℕ) → Kind
  -- any other word that begins with a hyphen, but for `-` alone
  unknown : Kind
  -- a file, or the value of an option
  plain : Kind

-- `--name` or `--name=value`
abbrev pub option_kind : List ℕ → Option (List ℕ) → Kind
option_kind name value = if bytes_eq (codes "steps") name then steps_option value else unknown

abbrev pub short_kind : Option (List ℕ) → Kind
short_kind (Some letters) = unknown
short_kind None = plain

abbrev pub long_kind : Option (List ℕ × Option (List ℕ)) → List ℕ → Kind
long_kind (Some p) word = option_kind p.0 p.1
long_kind None word = short_kind (short_of word)

abbrev pub kind_of : List ℕ → Kind
kind_of word = if bytes_eq word (codes "--") then ending else long_kind (long_of word) word

-- the value that was given for the steps, and the files
abbrev pub Said : Type 0
Said = Option (List ℕ) × List (List ℕ)

-- what one more word makes of the steps and files before it, where a value may be due, with what the words behind it say
abbrev pub turn : Kind → Bool → Option (List ℕ) → List (List ℕ) → List ℕ → List (List ℕ) → (Bool → Option (List ℕ) → List (List ℕ) → Option Said) → Option Said
turn ending false steps files word words next = Some (steps, files ++ words)
turn (steps_option None) false steps files word words next = next true steps files
turn (steps_option (Some value)) false None files word words next = next false (Some value) files
turn (steps_option (Some value)) false (Some old) files word words next = None
turn unknown false steps files word words next = None
turn plain false steps files word words next = next false steps (files ++ word ∷ [])
turn plain true None files word words next = next false (Some word) files
turn plain true (Some old) files word words next = None
turn ending true steps files word words next = None
turn (steps_option value) true steps files word words next = None
turn unknown true steps files word words next = None

-- what the words say, behind words that gave these steps and files; where a value is due, a plain word has to come
abbrev pub reads_on : Bool → Option (List ℕ) → List (List ℕ) → List (List ℕ) → Option Said
reads_on true steps files [] = None
reads_on false steps files [] = Some (steps, files)
reads_on due steps files (word ∷ words) = turn (kind_of word) due steps files word words (λ d s f. reads_on d s f words)

-- what the words say, or None where they aren't those of the command
abbrev pub reads : List (List ℕ) → Option Said
reads words = reads_on false None [] words
