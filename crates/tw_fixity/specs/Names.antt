-- The names of the variables in scope.
use Rattle.std.specs.Prelude.{ℕ, zero, suc, List, [], ◌∷◌, Bool, false, ◌||◌, Option, Some, None, if◌then◌else◌}
use Rattle.std.specs.Option.{option_map}
use Rattle.std.specs.Str.{bytes_eq}

-- the innermost first; a variable may have none
abbrev pub Names : Type 0
Names = List (Option (List ℕ))

-- whether a variable's name is this
abbrev pub is_name : Option (List ℕ) → List ℕ → Bool
is_name (Some y) x = bytes_eq y x
is_name None x = false

-- the innermost variable of a name
abbrev pub variable_of : Names → List ℕ → Option ℕ
variable_of [] x = None
variable_of (None ∷ N) x = option_map suc (variable_of N x)
variable_of (Some y ∷ N) x = if bytes_eq y x then Some zero else option_map suc (variable_of N x)

-- some variable has the name
abbrev pub is_in_scope : Names → List ℕ → Bool
is_in_scope [] x = false
is_in_scope (n ∷ N) x = is_name n x || is_in_scope N x
