-- How a command line spells numbers.
use Rattle.std.specs.Prelude.{ℕ, ◌+◌, ◌-◌, ◌*◌, List, [], ◌∷◌, None, Some, ◌==◌, ◌&&◌, nat_le, if◌then◌else◌}
use Rattle.std.specs.Char.{is_ascii_digit}
use Rattle.std.specs.declared.option.Option.{Option}

-- the number whose digits are those of n and then these
abbrev pub digits_on : ℕ → List ℕ → Option ℕ
digits_on n [] = Some n
digits_on n (b ∷ bs) = if is_ascii_digit b then digits_on (n * 10 + (b - 48)) bs else None

-- the number that a word spells: decimal digits, without a sign, of which the first is 0 only in `0` itself
abbrev pub number_of : List ℕ → Option ℕ
number_of [] = None
number_of (b ∷ []) = digits_on 0 (b ∷ [])
number_of (b ∷ c ∷ bs) = if b == 48 then None else digits_on 0 (b ∷ c ∷ bs)

-- the number, where it is in this range
abbrev pub in_range : ℕ → ℕ → Option ℕ → Option ℕ
in_range least most None = None
in_range least most (Some n) = if nat_le least n && nat_le n most then Some n else None
