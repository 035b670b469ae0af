-- The steps of clap's walk over the words of the command.
use Rattle.std.proofs.Common.{◌≡◌, ℕ, Bool, true, false, List, [], ◌∷◌, None, Some, suc, refl, codes, length}
use Rattle.std.specs.Prelude.{slice_get}
use Rattle.std.specs.Str.{bytes_eq, chars}
use Rattle.std.specs.declared.option.Option.{Option}
use Rattle.clap.specs.Lexer.{long_of, short_of}
use Rattle.clap.specs.Simple.{Shape, built, filled, with_index}
use Rattle.clap.specs.Kinds.{Kinds, or_else}
use Rattle.clap.specs.Walk.{Held, Row, Rule, Waiting, Walk, settled_rows, used, walk_from, walked, nothing_held}
use Rattle.clap.specs.Walk.{idle as resting, option as wanting, positional as going}
use Rattle.clap.specs.Faults.{flags_fault, settle_fault, turn_fault, use_fault}
use Rattle.clap.specs.declared.error.kind.ErrorKind.TheVariants.{UnknownArgument}
use Rattle.tw_words.specs.Command.{files_rule, steps_rule, twelf}

abbrev pub shape : Shape
shape = (built twelf).top

abbrev pub steps_arg : Rule
steps_arg = with_index 1 (filled steps_rule)

abbrev pub files_arg : Rule
files_arg = with_index 1 (filled files_rule)

rules_are : shape.rules ≡ steps_arg ∷ files_arg ∷ []
rules_are = refl

-- what is being read between two words: nothing, an option without its value, an option's value, or a file
pub data Pending : Type 0 where
  idle : Pending
  due : Pending
  given : List ℕ → Pending
  named : List ℕ → Pending

abbrev pub pending_of : Pending → Option (List ℕ × List (List ℕ))
pending_of idle = None
pending_of due = Some (codes "steps", [])
pending_of (given v) = Some (codes "steps", v ∷ [])
pending_of (named f) = Some (codes "files", f ∷ [])

abbrev pub waiting_of : Pending → Waiting
waiting_of idle = resting
waiting_of due = wanting (codes "steps")
waiting_of (given v) = resting
waiting_of (named f) = going

abbrev pub held : List Row → Pending → Held
held rows p = record { rows = rows; pending = pending_of p; skip = 0 }

-- where the walk stands
abbrev pub at : List Row → Pending → Bool → Walk
at rows p t = record { held = held rows p; waiting = waiting_of p; position = 1; is_trailing = t; stopped = None }

start_is : walk_from nothing_held ≡ at [] idle false
start_is = refl

-- the rows once what is being read is settled
abbrev pub rows_of_pending : Pending → List Row → List Row
rows_of_pending p rows = settled_rows shape.rules (pending_of p) rows

abbrev pub fault_of_pending : Pending → List Row → Kinds
fault_of_pending p rows = settle_fault shape.rules false (held rows p)

-- behind `--`
pub trailing-walked : (rows : List Row) (p : Pending) (word : List ℕ) → walked shape.rules [] (at rows p true) word ≡ at (rows_of_pending p rows) (named word) true
unfolding walked
trailing-walked rows idle word = refl
trailing-walked rows due word = refl
trailing-walked rows (given v) word = refl
trailing-walked rows (named f) word = refl

pub trailing-fault : (rows : List Row) (p : Pending) (word : List ℕ) → turn_fault shape [] (at rows p true) word ≡ fault_of_pending p rows
trailing-fault rows idle word = refl
trailing-fault rows due word = refl
trailing-fault rows (given v) word = refl
trailing-fault rows (named f) word = refl

-- at `--`
pub ending-walked : (rows : List Row) (p : Pending) (word : List ℕ) → bytes_eq word (codes "--") ≡ true → walked shape.rules [] (at rows p false) word ≡ at rows p true
unfolding walked
ending-walked rows idle word e = rw e refl
ending-walked rows due word e = rw e refl
ending-walked rows (given v) word e = rw e refl
ending-walked rows (named f) word e = rw e refl

pub ending-fault : (rows : List Row) (p : Pending) (word : List ℕ) → bytes_eq word (codes "--") ≡ true → turn_fault shape [] (at rows p false) word ≡ []
ending-fault rows idle word e = rw e refl
ending-fault rows due word e = rw e refl
ending-fault rows (given v) word e = rw e refl
ending-fault rows (named f) word e = rw e refl

-- a plain word: the value that is due, else a file
abbrev pub taken : Pending → List ℕ → Pending
taken due word = given word
taken _ word = named word

abbrev pub rows_taken : Pending → List Row → List Row
rows_taken due rows = rows
rows_taken p rows = rows_of_pending p rows

abbrev pub fault_taken : Pending → List Row → Kinds
fault_taken due rows = []
fault_taken p rows = fault_of_pending p rows

pub plain-walked : (rows : List Row) (p : Pending) (word : List ℕ) → bytes_eq word (codes "--") ≡ false → long_of word ≡ None → short_of word ≡ None
    → walked shape.rules [] (at rows p false) word ≡ at (rows_taken p rows) (taken p word) false
unfolding walked
plain-walked rows idle word e l s = rw (e, l, s) refl
plain-walked rows due word e l s = rw (e, l, s) refl
plain-walked rows (given v) word e l s = rw (e, l, s) refl
plain-walked rows (named f) word e l s = rw (e, l, s) refl

pub plain-fault : (rows : List Row) (p : Pending) (word : List ℕ) → bytes_eq word (codes "--") ≡ false → long_of word ≡ None → short_of word ≡ None
    → turn_fault shape [] (at rows p false) word ≡ fault_taken p rows
plain-fault rows idle word e l s = rw (e, l, s) refl
plain-fault rows due word e l s = rw (e, l, s) refl
plain-fault rows (given v) word e l s = rw (e, l, s) refl
plain-fault rows (named f) word e l s = rw (e, l, s) refl

-- at `--steps`, and at `--steps=v`
pub bare-walked : (rows : List Row) (p : Pending) (word name : List ℕ) → bytes_eq word (codes "--") ≡ false → long_of word ≡ Some (name, None) → bytes_eq (codes "steps") name ≡ true
    → walked shape.rules [] (at rows p false) word ≡ at (rows_of_pending p rows) due false
unfolding walked
bare-walked rows idle word name e l n = rw (e, l, n) refl
bare-walked rows due word name e l n = rw (e, l, n) refl
bare-walked rows (given v) word name e l n = rw (e, l, n) refl
bare-walked rows (named f) word name e l n = rw (e, l, n) refl

pub bare-fault : (rows : List Row) (p : Pending) (word name : List ℕ) → bytes_eq word (codes "--") ≡ false → long_of word ≡ Some (name, None) → bytes_eq (codes "steps") name ≡ true
    → turn_fault shape [] (at rows p false) word ≡ or_else (fault_of_pending p rows) []
bare-fault rows idle word name e l n = rw (e, l, n) refl
bare-fault rows due word name e l n = rw (e, l, n) refl
bare-fault rows (given v) word name e l n = rw (e, l, n) refl
bare-fault rows (named f) word name e l n = rw (e, l, n) refl

pub attached-walked : (rows : List Row) (p : Pending) (word name v : List ℕ) → bytes_eq word (codes "--") ≡ false → long_of word ≡ Some (name, Some v) → bytes_eq (codes "steps") name ≡ true
    → walked shape.rules [] (at rows p false) word ≡ at (used steps_arg (v ∷ []) (rows_of_pending p rows)) idle false
unfolding walked
attached-walked rows idle word name v e l n = rw (e, l, n) refl
attached-walked rows due word name v e l n = rw (e, l, n) refl
attached-walked rows (given u) word name v e l n = rw (e, l, n) refl
attached-walked rows (named f) word name v e l n = rw (e, l, n) refl

pub attached-fault : (rows : List Row) (p : Pending) (word name v : List ℕ) → bytes_eq word (codes "--") ≡ false → long_of word ≡ Some (name, Some v) → bytes_eq (codes "steps") name ≡ true
    → turn_fault shape [] (at rows p false) word ≡ or_else (or_else (fault_of_pending p rows) (use_fault false steps_arg (v ∷ []) (rows_of_pending p rows))) []
attached-fault rows idle word name v e l n = rw (e, l, n) refl
attached-fault rows due word name v e l n = rw (e, l, n) refl
attached-fault rows (given u) word name v e l n = rw (e, l, n) refl
attached-fault rows (named f) word name v e l n = rw (e, l, n) refl

-- at other words that begin with a hyphen
pub other-fault : (rows : List Row) (p : Pending) (word name : List ℕ) (value : Option (List ℕ)) → bytes_eq word (codes "--") ≡ false → long_of word ≡ Some (name, value) → bytes_eq (codes "steps") name ≡ false
    → turn_fault shape [] (at rows p false) word ≡ UnknownArgument ∷ []
other-fault rows idle word name value e l n = rw (e, l, n) refl
other-fault rows due word name value e l n = rw (e, l, n) refl
other-fault rows (given v) word name value e l n = rw (e, l, n) refl
other-fault rows (named f) word name value e l n = rw (e, l, n) refl

pub short-fault : (rows : List Row) (p : Pending) (word letters : List ℕ) (k letter : ℕ) → bytes_eq word (codes "--") ≡ false → long_of word ≡ None → short_of word ≡ Some letters
    → length letters ≡ suc k → slice_get (chars letters) 0 ≡ Some letter
    → turn_fault shape [] (at rows p false) word ≡ UnknownArgument ∷ []
unfolding flags_fault
short-fault rows idle word letters k letter e l s n c = rw (e, l, s, n, c) refl
short-fault rows due word letters k letter e l s n c = rw (e, l, s, n, c) refl
short-fault rows (given v) word letters k letter e l s n c = rw (e, l, s, n, c) refl
short-fault rows (named f) word letters k letter e l s n c = rw (e, l, s, n, c) refl
