-- Taking rows of operators back. The proofs need it; the definitions of a declaration don't speak of it.
use Rattle.std.specs.Prelude.{◌≡◌, ℕ, List, [], ◌∷◌, Option, None, Some, IsSome}
use Rattle.std.specs.FinMap.{get, insert, remove}
use Rattle.tw_fixity.specs.declared.table.Fix.{Fix}
use Rattle.tw_parse.specs.Outlines.{Table}
use Rattle.tw_decl.specs.declared.operators.OldRow.{OldRow}

-- the table in which a name has the row again that it had, or none
abbrev pub back_to : Table → List ℕ → Option Fix → Table
back_to table name None = remove table name
back_to table name (Some fix) = insert table name fix

-- a name that gets its row back has one
abbrev pub IsThere : Table → List ℕ → Option Fix → Type 0
IsThere table name None = Unit {0}
IsThere table name (Some fix) = IsSome (get table name)

-- taken back one after the other, these rows lead to the old table
abbrev pub LeadsBack : Table → List OldRow → Table → Type 0
LeadsBack table [] old = table ≡ old
LeadsBack table (r ∷ rs) old = IsThere table r.name r.row × LeadsBack (back_to table r.name r.row) rs old
