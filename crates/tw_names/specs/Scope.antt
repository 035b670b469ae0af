-- What an identifier names.
use Rattle.std.specs.Prelude.{ℕ, zero, suc, List, [], ◌∷◌, Option, None, Some, codes, if◌then◌else◌}
use Rattle.std.specs.Option.{option_map}
use Rattle.std.specs.Str.{bytes_eq}
use Rattle.lf.specs.Entries.{Entry}
use Rattle.lf.specs.Syntax.{Head, constant, variable}
use Rattle.tw_fixity.specs.Names.{Names, variable_of}
use Rattle.tw_signature.specs.Names.{number_of}

-- the name that a binder gives to its variable; `_` gives none
abbrev pub binder_name : List ℕ → Option (List ℕ)
binder_name x = if bytes_eq x (codes "_") then None else Some x

-- a variable before a constant
abbrev pub head_named : Option ℕ → Option ℕ → Option Head
head_named (Some i) c = Some (variable i)
head_named None c = option_map constant c

-- the innermost variable of the name, or else its newest constant
abbrev pub named : List Entry → Names → List ℕ → Option Head
named es N x = head_named (variable_of N x) (number_of es x)
