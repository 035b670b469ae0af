-- Clap's faults and matches of the words are what they say.
use Rattle.std.proofs.Common.{◌≡◌, ◌∙◌, ℕ, Bool, true, false, List, [], ◌∷◌, None, Some, is_some, map, string_bytes, refl, sym, ap}
use Rattle.std.specs.Prelude.{String}
use Rattle.std.specs.declared.option.Option.{Option}
use Rattle.std.proofs.lemmas.Str.{IsUtf8-string_bytes}
use Rattle.clap.specs.Kinds.{IsAmong, Kinds, or_else}
use Rattle.clap.specs.declared.error.kind.ErrorKind.{ErrorKind}
use Rattle.clap.specs.Simple.{built, entered, matches_of}
use Rattle.clap.specs.Walk.{Row, has_row, nothing_held, settled_rows, with_default}
use Rattle.clap.specs.Faults.{default_fault, defaults_fault, entered_fault, fault_of, level_fault, settle_fault, walk_fault}
use Rattle.tw_words.specs.Command.{file_words, steps_word, twelf}
use Rattle.tw_words.specs.Reading.{reads}
use Rattle.tw_words.proofs.Rows.{nothing-said}
use Rattle.tw_words.proofs.Walked.{at, files_arg, idle, shape, steps_arg}
use Rattle.tw_words.proofs.Meaning.{AllText, faults, last, outcome-reads, said_by, verdict}

-- neither argument has a default
steps-default : (rows : List Row) → with_default rows steps_arg ≡ rows
steps-default rows = go (has_row steps_arg.id rows) refl where
  go : (b : Bool) → has_row steps_arg.id rows ≡ b → with_default rows steps_arg ≡ rows
  go true e = rw e refl
  go false e = rw e refl

files-default : (rows : List Row) → with_default rows files_arg ≡ rows
files-default rows = go (has_row files_arg.id rows) refl where
  go : (b : Bool) → has_row files_arg.id rows ≡ b → with_default rows files_arg ≡ rows
  go true e = rw e refl
  go false e = rw e refl

steps-default-fault : (rows : List Row) → default_fault rows steps_arg ≡ []
steps-default-fault rows = go (has_row steps_arg.id rows) refl where
  go : (b : Bool) → has_row steps_arg.id rows ≡ b → default_fault rows steps_arg ≡ []
  go true e = rw e refl
  go false e = rw e refl

files-default-fault : (rows : List Row) → default_fault rows files_arg ≡ []
files-default-fault rows = go (has_row files_arg.id rows) refl where
  go : (b : Bool) → has_row files_arg.id rows ≡ b → default_fault rows files_arg ≡ []
  go true e = rw e refl
  go false e = rw e refl

no-default-fault : (rows : List Row) → defaults_fault rows shape.rules ≡ []
unfolding defaults_fault
no-default-fault rows = ap (λ (k : Kinds). or_else k (or_else (default_fault (with_default rows steps_arg) files_arg) [])) (steps-default-fault rows) ∙ ap (λ (k : Kinds). or_else k []) (files-default-fault (with_default rows steps_arg))

or_else-nil : (a : Kinds) → or_else a [] ≡ a
or_else-nil [] = refl
or_else-nil (k ∷ ks) = refl

-- the rows at the end
rows-at-end : (words : List (List ℕ)) → matches_of twelf words ≡ settled_rows shape.rules (last (at [] idle false) words).held.pending (last (at [] idle false) words).held.rows
rows-at-end words =
    let rows : List Row = settled_rows shape.rules (last (at [] idle false) words).held.pending (last (at [] idle false) words).held.rows in
    files-default (with_default rows steps_arg) ∙ steps-default rows

level : (words : List (List ℕ)) (stop : Option (List ℕ × List (List ℕ)))
    → level_fault shape [] nothing_held words (is_some (entered (built twelf) stop)) (entered_fault (built twelf) stop) ≡ level_fault shape [] nothing_held words false []
level words None = refl
level words (Some p) = refl

faults-are : (words : List (List ℕ)) → fault_of twelf words ≡ faults (at [] idle false) words
faults-are words =
    let end = last (at [] idle false) words in
    let walk : Kinds = walk_fault shape [] (at [] idle false) words in
    let settle : Kinds = settle_fault shape.rules false end.held in
    level words end.stopped
    ∙ ap (λ (k : Kinds). or_else walk (or_else settle (or_else k []))) (no-default-fault (settled_rows shape.rules end.held.pending end.held.rows))
    ∙ ap (λ (k : Kinds). or_else walk k) (or_else-nil settle)

-- what clap's definitions give for the words is what they say
pub clap-reads : (words : List (List ℕ)) → AllText words → verdict (fault_of twelf words) (steps_word words, file_words words) ≡ reads words
clap-reads words texts = ap (λ (k : Kinds). verdict k (steps_word words, file_words words)) (faults-are words)
    ∙ ap (λ rows. verdict (faults (at [] idle false) words) (said_by rows)) (rows-at-end words)
    ∙ outcome-reads words texts [] idle None [] nothing-said

-- where clap finds no fault
pub reads-clean : (words : List (List ℕ)) → AllText words → fault_of twelf words ≡ [] → reads words ≡ Some (steps_word words, file_words words)
reads-clean words texts clean = sym (clap-reads words texts) ∙ ap (λ (k : Kinds). verdict k (steps_word words, file_words words)) clean

-- where it finds one
pub reads-faulty : (words : List (List ℕ)) (kind : ErrorKind) → AllText words → IsAmong kind (fault_of twelf words) → reads words ≡ None
reads-faulty words kind texts among = sym (clap-reads words texts) ∙ go (fault_of twelf words) among where
  go : (kinds : Kinds) → IsAmong kind kinds → verdict kinds (steps_word words, file_words words) ≡ None
  go [] among = absurd among
  go (k ∷ ks) among = refl

-- the bytes of strings are text
pub all-text : {Z : Type 0} (words : List (String Z)) → AllText (map (λ w. string_bytes w) words)
all-text [] = tt
all-text (w ∷ ws) = (IsUtf8-string_bytes w, all-text ws)
