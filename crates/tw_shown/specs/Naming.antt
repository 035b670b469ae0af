-- Names for the variables of a context, in the order in which they are shown.
use Rattle.std.specs.Prelude.{◌≡◌, ℕ, List, [], ◌∷◌, ◌<◌, length, Bool, true, false, Option, Some, None, cond, slice_get, slice_index_or}
use Rattle.std.specs.List.{slice_set}
use Rattle.lf.specs.Syntax.{LfType}
use Rattle.tw_print.specs.Arguments.{type_or}
use Rattle.tw_print.specs.Names.{Scene, fresh_name, upper_base}
use Rattle.tw_fixity.specs.Names.{Names as Scope}
use Rattle.tw_shown.specs.Shown.{is_shown}

-- the names of the context's variables, the innermost first, and the names that are taken
pub record Naming : Type 0 where
  pub names : Scope
  pub taken : Scope

-- whether there is a variable without a name
abbrev pub lacks_name : Option (Option (List ℕ)) → Bool
lacks_name (Some None) = true
lacks_name (Some (Some x)) = false
lacks_name None = false

-- A variable without a name takes the first one from the uppercase base of its type that isn't taken.
abbrev pub name_one : Scene → List LfType → Naming → ℕ → Naming
name_one s G n i = cond (lacks_name (slice_get n.names i)) (let x = fresh_name s n.taken (upper_base s (type_or (slice_get G i))) in record { names = slice_set n.names i (Some x); taken = Some x ∷ n.taken }) n

-- the names once these variables are shown, one after the other
abbrev pub named : Scene → List LfType → Naming → List ℕ → Scope
named s G n [] = n.names
named s G n (i ∷ is) = named s G (name_one s G n i) is

-- for each of the first n variables, whether it is shown
pub record MarksShown (n : ℕ) (is : List ℕ) (marks : List Bool) : Type 0 where
  pub count : length marks ≡ n
  pub each : (i : ℕ) → i < n → slice_index_or marks i false ≡ is_shown i is
