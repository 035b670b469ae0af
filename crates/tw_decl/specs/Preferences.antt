-- What `%name` asks of its family, and its line.
use Rattle.std.specs.Prelude.{ℕ, List, [], ◌++◌, Bool, true, false, Option, None, Some, codes}
use Rattle.lf.specs.Entries.{Entry, Body, declare_family}

abbrev pub is_family_body : Body → Bool
is_family_body (declare_family K) = true
is_family_body _ = false

abbrev pub is_family : Option Entry → Bool
is_family (Some e) = is_family_body e.body
is_family None = false

abbrev pub lower_word : Option (List ℕ) → List ℕ
lower_word (Some y) = codes " " ++ y
lower_word None = []

-- the declaration with single spaces
abbrev pub preference_line : List ℕ → List ℕ → Option (List ℕ) → List ℕ
preference_line family x y = (codes "%name " ++ family ++ codes " " ++ x) ++ lower_word y ++ codes ".\n"
