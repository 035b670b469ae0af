-- What `%infix`, `%prefix` and `%postfix` ask of names, what they change, and their line.
use Rattle.std.specs.Prelude.{ℕ, ◌-◌, List, [], ◌∷◌, ◌++◌, Bool, true, false, ◌&&◌, Option, None, Some, nat_le, codes, decimal, if◌then◌else◌}
use Rattle.std.specs.FinMap.{insert}
use Rattle.lf.specs.Entries.{Entry, entry, body_quantifiers}
use Rattle.tw_fixity.specs.declared.table.Assoc.{Assoc}
use Rattle.tw_fixity.specs.declared.table.Assoc.TheVariants.{Neither, Left, Right}
use Rattle.tw_fixity.specs.declared.table.Fix.{Fix}
use Rattle.tw_fixity.specs.declared.table.Fix.TheVariants.{Infix, Prefix, Postfix}
use Rattle.tw_parse.specs.Outlines.{Table}
use Rattle.tw_parse.specs.declared.decl.ExtName.{ExtName}
use Rattle.tw_signature.specs.Names.{number_of}
use Rattle.tw_decl.specs.Labels.{is_known}
use Rattle.tw_decl.specs.View.{View}

abbrev pub entry_by : List Entry → Option ℕ → Option Entry
entry_by es (Some c) = entry es c
entry_by es None = None

-- the newest entry of a name
abbrev pub newest : List Entry → List ℕ → Option Entry
newest es name = entry_by es (number_of es name)

-- how many arguments of an entry are written
abbrev pub explicit_count : Entry → ℕ
explicit_count e = body_quantifiers e.body - e.implicit

-- how many operands an operator has
abbrev pub operand_count : Fix → ℕ
operand_count (Infix side p) = 2
operand_count (Prefix p) = 1
operand_count (Postfix p) = 1

-- whether it takes so many arguments
abbrev pub takes : ℕ → Option Entry → Bool
takes n (Some e) = nat_le n (explicit_count e)
takes n None = false

abbrev pub all_take : List Entry → ℕ → List ExtName → Bool
all_take es n [] = true
all_take es n (x ∷ xs) = takes n (newest es x.name) && all_take es n xs

-- the first of the names that is neither an entry's nor a block's
abbrev pub first_undeclared : View → List ExtName → Option ExtName
first_undeclared v [] = None
first_undeclared v (x ∷ xs) = if is_known v x.name then first_undeclared v xs else Some x

-- the table in which each of the names has the row
abbrev pub with_rows : Table → Fix → List ExtName → Table
with_rows table fix [] = table
with_rows table fix (x ∷ xs) = with_rows (insert table x.name fix) fix xs

abbrev pub side_word : Assoc → List ℕ
side_word Neither = codes "none"
side_word Left = codes "left"
side_word Right = codes "right"

abbrev pub fix_words : Fix → List ℕ
fix_words (Infix side p) = codes "%infix " ++ side_word side ++ codes " " ++ decimal p
fix_words (Prefix p) = codes "%prefix " ++ decimal p
fix_words (Postfix p) = codes "%postfix " ++ decimal p

-- each behind one space
abbrev pub spaced : List ExtName → List ℕ
spaced [] = []
spaced (x ∷ xs) = codes " " ++ x.name ++ spaced xs

-- the declaration with single spaces
abbrev pub fixity_line : Fix → List ExtName → List ℕ
fixity_line fix names = (fix_words fix ++ spaced names) ++ codes ".\n"
