-- The declared constants of a family: those whose type has the family as its target.
use Rattle.std.specs.Prelude.{ℕ, List, [], ◌∷◌, ◌++◌, length, Bool, false, cond, Option, Some, None}
use Rattle.lf.specs.Entries.{Body, Entry, declare_family, declare_constant, declare_definition}
use Rattle.lf.specs.Variables.{same_number, target}

-- the family of a declared constant; families and definitions are constants of none
abbrev pub family_of : Body → Option ℕ
family_of (declare_family K) = None
family_of (declare_constant A) = Some (target A)
family_of (declare_definition M A b) = None

abbrev pub is_family : Option ℕ → ℕ → Bool
is_family (Some b) a = same_number b a
is_family None a = false

-- the numbers of the constants of a family, the oldest first
abbrev pub constants_of : List Entry → ℕ → List ℕ
constants_of [] a = []
constants_of (e ∷ es) a = cond (is_family (family_of e.body) a) (constants_of es a ++ length es ∷ []) (constants_of es a)
