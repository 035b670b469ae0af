-- The bounds of a query: how many answers there have to be, and how many are looked for.
use Rattle.std.specs.Prelude.{ℕ, List, [], ◌∷◌, Bool, true, false, ◌&&◌, Option, None, Some, nat_lt, codes, if◌then◌else◌}
use Rattle.std.specs.Str.{bytes_eq}
use Rattle.tw_parse.specs.Keywords.{is_digit, number_from}
use Rattle.tw_parse.specs.declared.words.Word.{Word}
use Rattle.tw_parse.specs.declared.words.Word.TheVariants.{Name}
use Rattle.tw_parse_queries.specs.declared.search.ExtBound.{ExtBound}
use Rattle.tw_parse_queries.specs.declared.search.ExtBound.TheVariants.{Number, Star}

abbrev pub are_digits : List ℕ → Bool
are_digits [] = true
are_digits (b ∷ bs) = is_digit b && are_digits bs

-- one decimal digit or more
abbrev pub is_number : List ℕ → Bool
is_number [] = false
is_number (b ∷ bs) = are_digits (b ∷ bs)

-- A token is a bound: a number, also one that is too large, or `*`. `10`, `010` and `*` are bounds; `1a`, `-1` and `_` aren't.
abbrev pub is_bound : Word → List ℕ → Bool
is_bound Name bytes = if bytes_eq bytes (codes "*") then true else is_number bytes
is_bound _ bytes = false

abbrev pub not_too_large : Option ℕ → Option ℕ
not_too_large None = None
not_too_large (Some n) = if nat_lt n 18446744073709551616 then Some n else None

-- the number in decimal digits, which is at most 18,446,744,073,709,551,615
abbrev pub number_of : List ℕ → Option ℕ
number_of [] = None
number_of (b ∷ bs) = not_too_large (number_from 0 (b ∷ bs))

abbrev pub numbered : Option ℕ → Option ExtBound
numbered None = None
numbered (Some n) = Some (Number n)

-- the bound that is written so; none where its number is too large
abbrev pub bound_of : List ℕ → Option ExtBound
bound_of bytes = if bytes_eq bytes (codes "*") then Some Star else numbered (number_of bytes)
