-- Labels of blocks: the block that one names, and names that an entry or a block has.
use Rattle.std.specs.Prelude.{ℕ, List, [], ◌∷◌, Bool, false, ◌||◌, Option, None, Some, is_some, if◌then◌else◌}
use Rattle.std.specs.Str.{bytes_eq}
use Rattle.lf.specs.Subordination.{Block}
use Rattle.tw_signature.specs.Names.{number_of}
use Rattle.tw_decl.specs.View.{View}

-- a block has this label
abbrev pub is_label : List Block → List ℕ → Bool
is_label [] label = false
is_label (B ∷ Bs) label = bytes_eq B.label label || is_label Bs label

-- this one, or else that
abbrev pub or_else : Option Block → Option Block → Option Block
or_else (Some B) o = Some B
or_else None o = o

-- the newest block of a label, where the oldest stands first: of two blocks `l` the second
abbrev pub newest_of : List Block → List ℕ → Option Block
newest_of [] label = None
newest_of (B ∷ Bs) label = or_else (newest_of Bs label) (if bytes_eq B.label label then Some B else None)

-- the block that a label names: the newest one that has it
abbrev pub block_named : View → List ℕ → Option Block
block_named v label = newest_of v.checked.blocks label

-- an entry or a block has this name
abbrev pub is_known : View → List ℕ → Bool
is_known v name = is_some (number_of v.signature name) || is_label v.checked.blocks name
