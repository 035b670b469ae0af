-- Numbers in digits, and the limit that they don't reach.
use Rattle.std.proofs.Common.{◌≡◌, ℕ, ◌+◌, ◌-◌, ◌*◌, ◌<◌, ◌≤◌, List, [], ◌∷◌, length, Bool, true, false, None, Some, nat_lt, if◌then◌else◌, refl, arith}
use Rattle.std.proofs.lemmas.Bool.Decides.{nat_tests}
use Rattle.tw_parse.specs.Keywords.{is_digit, number_from}
use Rattle.tw_parse_queries.specs.Bounds.{not_too_large, number_of}

pub of_digits : (bs : List ℕ) → 0 < length bs → number_of bs ≡ not_too_large (number_from 0 bs)
of_digits [] h = absurd (omega arith)
of_digits (b ∷ bs) h = refl

-- more digits don't make a number less
pub too_large : (n : ℕ) (bs : List ℕ) → 18446744073709551616 ≤ n → not_too_large (number_from n bs) ≡ None
too_large n [] h = let large : nat_lt n 18446744073709551616 ≡ false = grind (arith, nat_tests) in rw large refl
too_large n (b ∷ bs) h = either (is_digit b) (too_large (10 * n + (b - 48)) bs (omega arith))
  where
    either : (d : Bool) → not_too_large (number_from (10 * n + (b - 48)) bs) ≡ None → not_too_large (if d then number_from (10 * n + (b - 48)) bs else None) ≡ None
    either true e = e
    either false e = refl

pub small : (n : ℕ) → n < 18446744073709551616 → not_too_large (Some n) ≡ Some n
small n h = let below : nat_lt n 18446744073709551616 ≡ true = grind (arith, nat_tests) in rw below refl
