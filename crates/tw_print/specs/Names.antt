-- The names by which constants and variables are shown.
use Rattle.std.specs.Prelude.{◌≡◌, refl, ℕ, suc, zero, ◌==◌, ◌^◌, List, [], ◌++◌, Option, Some, None, Bool, false, cond, ◌||◌, is_some, codes, decimal, slice_get, if◌then◌else◌}
use Rattle.std.specs.Ordering.{nat_cmp}
use Rattle.std.specs.FinMap as map
use Rattle.lf.specs.Syntax.{Head, constant, variable, metavariable, LfType}
use Rattle.lf.specs.Entries.{Entry, entry}
use Rattle.lf.specs.Variables.{target}
use Rattle.tw_fixity.specs.Names.{Names as Scope, is_in_scope}
use Rattle.tw_signature.specs.Names.{number_of}
use Rattle.tw_fixity.specs.Rows.{name_order}
use Rattle.tw_fixity.specs.declared.table.Fix.{Fix}

-- A row of preferences for variables of a family: an uppercase name, and perhaps a lowercase one.
abbrev pub Preferences : Type 0
Preferences = List ℕ × Option (List ℕ)

-- What a text depends on: the entries, the newest first; the table of operators; the rows of preferences by family;
-- and whether implicit arguments are shown.
pub record Scene : Type 0 where
  pub entries : List Entry
  pub rows : map.FinMap name_order Fix
  pub names : map.FinMap nat_cmp Preferences
  pub implicit : Bool

-- The name of an entry, which is empty where there is none.
abbrev pub name_in : Option Entry → List ℕ
name_in (Some e) = e.name
name_in None = []

-- whether a name's newest entry is this one
abbrev pub is_newest : Option ℕ → ℕ → Bool
is_newest (Some d) c = d == c
is_newest None c = false

-- A constant is shadowed where it isn't the newest of its name.
abbrev pub is_plain : Scene → ℕ → Bool
is_plain s c = is_newest (number_of s.entries (name_in (entry s.entries c))) c

-- its name, between percent signs where it is shadowed
abbrev pub constant_word : Scene → ℕ → List ℕ
constant_word s c = let name = name_in (entry s.entries c) in if is_plain s c then name else codes "%" ++ name ++ codes "%"

-- the name of a variable; `_` where it has none
abbrev pub word_in : Option (Option (List ℕ)) → List ℕ
word_in (Some (Some name)) = name
word_in (Some None) = codes "_"
word_in None = codes "_"

abbrev pub variable_word : Scope → ℕ → List ℕ
variable_word ns i = word_in (slice_get ns i)

-- a canonical term has no metavariable
abbrev pub head_word : Scene → Scope → Head → List ℕ
head_word s ns (constant c) = constant_word s c
head_word s ns (variable i) = variable_word ns i
head_word s ns (metavariable m) = codes "_"

-- A name is taken where a variable in scope has it, a declared constant (family, definition) has it, or the table has a row for it.
abbrev pub is_taken : Scene → Scope → List ℕ → Bool
is_taken s ns name = is_in_scope ns name || (is_some (number_of s.entries name) || is_some (map.get s.rows name))

-- the base itself, then the base followed by 1, 2, 3 and so on
abbrev pub candidate : List ℕ → ℕ → List ℕ
candidate base zero = base
candidate base (suc k) = base ++ decimal (suc k)

-- The first candidate from number k on that isn't taken. As many as `count` are tried.
abbrev pub first_free : ℕ → Scene → Scope → List ℕ → ℕ → List ℕ
first_free zero s ns base k = candidate base k
first_free (suc count) s ns base k = cond (is_taken s ns (candidate base k)) (first_free count s ns base (suc k)) (candidate base k)

-- No memory holds so many names.
pub candidates : ℕ
candidates = 2 ^ 64

pub candidates_is : candidates ≡ 2 ^ 64
unfolding candidates
candidates_is = refl

-- the name that a variable gets from its base
abbrev pub fresh_name : Scene → Scope → List ℕ → List ℕ
fresh_name s ns base = first_free candidates s ns base zero

abbrev pub upper_of : Option Preferences → List ℕ
upper_of (Some row) = row.0
upper_of None = codes "X"

abbrev pub lower_in : Option (List ℕ) → List ℕ
lower_in (Some name) = name
lower_in None = codes "x"

abbrev pub lower_of : Option Preferences → List ℕ
lower_of (Some row) = lower_in row.1
lower_of None = codes "x"

-- The base of an implicit quantifier without a hint: the uppercase preference of its type's target family, else `X`.
abbrev pub upper_base : Scene → LfType → List ℕ
upper_base s A = upper_of (map.get s.names (target A))

-- The base of any other variable without a hint: the lowercase preference, else `x`.
abbrev pub lower_base : Scene → LfType → List ℕ
lower_base s A = lower_of (map.get s.names (target A))
