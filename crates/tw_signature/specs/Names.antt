-- Names in a signature. An entry's name hides the same name of each older entry.
use Rattle.std.specs.Prelude.{ℕ, List, [], ◌∷◌, length, Option, Some, None, cond}
use Rattle.std.specs.Str.{bytes_eq}
use Rattle.lf.specs.Entries.{Entry}

-- the number of the newest entry of a name
abbrev pub number_of : List Entry → List ℕ → Option ℕ
number_of [] name = None
number_of (e ∷ es) name = cond (bytes_eq e.name name) (Some (length es)) (number_of es name)
