-- The keywords that are known, and what stands behind them.
use Rattle.std.specs.Prelude.{ℕ, List, [], ◌∷◌, Bool, true, false, ◌&&◌, ◌||◌, ◌+◌, ◌-◌, ◌*◌, Option, None, Some, nat_lt, nat_le, codes, ◌==◌, if◌then◌else◌}
use Rattle.std.specs.Str.{bytes_eq}
use Rattle.tw_fixity.specs.declared.table.Assoc.{Assoc}
use Rattle.tw_fixity.specs.declared.table.Assoc.TheVariants.{Neither, Left, Right}
use Rattle.tw_fixity.specs.declared.table.Fix.{Fix}
use Rattle.tw_fixity.specs.declared.table.Fix.TheVariants as fixes
use Rattle.tw_parse.specs.declared.words.Word.{Word}
use Rattle.tw_parse.specs.declared.words.Word.TheVariants.{Name, Forward, Backward, Underscore, Star, Equals}
use Rattle.tw_parse.specs.declared.words.Form.{Form}
use Rattle.tw_parse.specs.declared.words.Form.TheVariants.{Abbreviation, Preference, Infix, Prefix, Postfix}

-- the form of a declaration that begins with this keyword
abbrev pub form_of : List ℕ → Option Form
form_of bytes =
    if bytes_eq bytes (codes "%abbrev") then Some Abbreviation else
    if bytes_eq bytes (codes "%name") then Some Preference else
    if bytes_eq bytes (codes "%infix") then Some Infix else
    if bytes_eq bytes (codes "%prefix") then Some Prefix else
    if bytes_eq bytes (codes "%postfix") then Some Postfix else
    None

-- whether declarations with a keyword of this form are read: all known keywords' are
abbrev pub is_built : Option Form → Bool
is_built None = false
is_built (Some form) = true

-- the keywords of the language, also those whose declarations aren't read yet: `%query` is one, `%theorem` isn't
abbrev pub is_in_language : List ℕ → Bool
is_in_language bytes =
    if is_built (form_of bytes) then true else
    if bytes_eq bytes (codes "%query") then true else
    if bytes_eq bytes (codes "%solve") then true else
    if bytes_eq bytes (codes "%mode") then true else
    if bytes_eq bytes (codes "%block") then true else
    if bytes_eq bytes (codes "%worlds") then true else
    if bytes_eq bytes (codes "%terminates") then true else
    if bytes_eq bytes (codes "%covers") then true else
    bytes_eq bytes (codes "%total")

abbrev pub assoc_of : List ℕ → Option Assoc
assoc_of bytes =
    if bytes_eq bytes (codes "none") then Some Neither else
    if bytes_eq bytes (codes "left") then Some Left else
    if bytes_eq bytes (codes "right") then Some Right else
    None

abbrev pub is_digit : ℕ → Bool
is_digit b = nat_le 48 b && nat_le b 57

-- the number whose first digits make n and whose further ones are these, if all are decimal digits
abbrev pub number_from : ℕ → List ℕ → Option ℕ
number_from n [] = Some n
number_from n (b ∷ bs) = if is_digit b then number_from (10 * n + (b - 48)) bs else None

abbrev pub below_limit : Option ℕ → Option ℕ
below_limit None = None
below_limit (Some n) = if nat_lt n 10000 then Some n else None

-- a precedence is one decimal digit or more, and below 10,000
abbrev pub precedence_of : List ℕ → Option ℕ
precedence_of [] = None
precedence_of (b ∷ bs) = below_limit (number_from 0 (b ∷ bs))

abbrev pub infix_of : Option Assoc → Option ℕ → Option Fix
infix_of (Some side) (Some p) = Some (fixes.Infix side p)
infix_of _ _ = None

abbrev pub with_precedence : (ℕ → Fix) → Option ℕ → Option Fix
with_precedence make (Some p) = Some (make p)
with_precedence make None = None

-- the row that stands between a keyword of this form and the names: a side and a precedence, or a precedence alone
abbrev pub fix_by : Option Form → List (List ℕ) → Option Fix
fix_by (Some Infix) (side ∷ p ∷ []) = infix_of (assoc_of side) (precedence_of p)
fix_by (Some Prefix) (p ∷ []) = with_precedence fixes.Prefix (precedence_of p)
fix_by (Some Postfix) (p ∷ []) = with_precedence fixes.Postfix (precedence_of p)
fix_by _ _ = None

abbrev pub fix_of : List ℕ → List (List ℕ) → Option Fix
fix_of keyword words = fix_by (form_of keyword) words

-- a name that begins with `_` or an uppercase letter
abbrev pub is_upper : List ℕ → Bool
is_upper [] = false
is_upper (b ∷ bs) = (b == 95) || (nat_le 65 b && nat_le b 90)

-- an identifier, with a fixed meaning or not
abbrev pub is_identifier : Word → Bool
is_identifier Name = true
is_identifier Forward = true
is_identifier Backward = true
is_identifier Underscore = true
is_identifier Star = true
is_identifier Equals = true
is_identifier _ = false
