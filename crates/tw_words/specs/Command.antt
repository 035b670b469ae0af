-- The program's command, as clap sees it.
use Rattle.std.specs.Prelude.{ℕ, List, [], true, Some, codes, unwrap_or}
use Rattle.std.specs.declared.option.Option.{Option}
use Rattle.clap.specs.Words.{App, Rule, all_of, first_of, matches_of, new_app, new_rule, with_rule}
use Rattle.clap.specs.Simple.{on_top}
use Rattle.clap.specs.declared.builder.action.ArgAction.TheVariants.{Set, Append}
use Rattle.clap.specs.declared.error.kind.ErrorKind.{ErrorKind}
use Rattle.clap.specs.declared.error.kind.ErrorKind.TheVariants.{OutOfMemory}
use Rattle.tw_words.specs.declared.words.WordsFault.{WordsFault}
use Rattle.tw_words.specs.declared.words.WordsFault.TheVariants.{Bad, NoMemory}

-- an option `--steps`, which takes one value and may be given once
abbrev pub steps_rule : Rule
steps_rule = record (new_rule (codes "steps")) { long = Some (codes "steps"); action = Some Set }

-- any number of files, at any place
abbrev pub files_rule : Rule
files_rule = record (new_rule (codes "files")) { action = Some Append }

-- the program's command, as clap sees it: the words behind its name, without options for help and version
abbrev pub twelf : App
twelf = with_rule (with_rule
    (on_top (λ s. record s { no_binary_name = true; disable_help_flag = true; disable_version_flag = true }) (new_app (codes "twelf")))
    steps_rule) files_rule

-- the word that was given for the steps
abbrev pub steps_word : List (List ℕ) → Option (List ℕ)
steps_word words = first_of (codes "steps") (matches_of twelf words)

-- the words that name files, in their order
abbrev pub file_words : List (List ℕ) → List (List ℕ)
file_words words = unwrap_or (all_of (codes "files") (matches_of twelf words)) []

-- the fault that an error of clap is
abbrev pub fault_for : ErrorKind → WordsFault
fault_for OutOfMemory = NoMemory
fault_for _ = Bad
