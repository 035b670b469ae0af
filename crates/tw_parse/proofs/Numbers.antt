-- Precedences in digits.
use Rattle.std.proofs.Common.{◌≡◌, ℕ, ◌+◌, ◌-◌, ◌*◌, ◌<◌, ◌≤◌, List, [], ◌∷◌, length, drop, get_or, Bool, true, false, None, Some, nat_lt, if◌then◌else◌, refl, sym, ap, ◌∙◌, arith, add-one, drop-cons}
use Rattle.std.proofs.lemmas.Bool.Decides.{nat_tests}
use Rattle.tw_parse.specs.Keywords.{is_digit, number_from, below_limit, precedence_of}

pub of_digits : (bs : List ℕ) → 0 < length bs → precedence_of bs ≡ below_limit (number_from 0 bs)
of_digits [] h = absurd (omega arith)
of_digits (b ∷ bs) h = refl

at_byte : (n : ℕ) (bs : List ℕ) (i : ℕ) → i < length bs → number_from n (drop i bs) ≡ (if is_digit (get_or bs i 0) then number_from (10 * n + (get_or bs i 0 - 48)) (drop (i + 1) bs) else None)
at_byte n bs i h = ap (number_from n) (drop-cons bs i 0 h) ∙ ap (λ k. if is_digit (get_or bs i 0) then number_from (10 * n + (get_or bs i 0 - 48)) (drop k bs) else None) (sym (add-one i))

pub at_digit : (n : ℕ) (bs : List ℕ) (i b wider : ℕ) → i < length bs → b ≡ get_or bs i 0 → 48 ≤ b → b ≤ 57 → wider ≡ 10 * n + (b - 48) → number_from n (drop i bs) ≡ number_from wider (drop (i + 1) bs)
at_digit n bs i b wider h e low high is =
    let digit : is_digit b ≡ true = grind (arith, nat_tests) in
    at_byte n bs i h ∙ ap (λ c. if is_digit c then number_from (10 * n + (c - 48)) (drop (i + 1) bs) else None) (sym e)
    ∙ ap (λ d. if d then number_from (10 * n + (b - 48)) (drop (i + 1) bs) else None) digit ∙ ap (λ m. number_from m (drop (i + 1) bs)) (sym is)

below_digits : (b : ℕ) → b < 48 → is_digit b ≡ false
below_digits b h = grind (arith, nat_tests)

above_digits : (b : ℕ) → 57 < b → is_digit b ≡ false
above_digits b h = grind (arith, nat_tests)

no_digit : (n : ℕ) (bs : List ℕ) (i b : ℕ) → i < length bs → b ≡ get_or bs i 0 → is_digit b ≡ false → number_from n (drop i bs) ≡ None
no_digit n bs i b h e isnt =
    at_byte n bs i h ∙ ap (λ c. if is_digit c then number_from (10 * n + (c - 48)) (drop (i + 1) bs) else None) (sym e)
    ∙ ap (λ d. if d then number_from (10 * n + (b - 48)) (drop (i + 1) bs) else None) isnt

pub low_byte : (n : ℕ) (bs : List ℕ) (i b : ℕ) → i < length bs → b ≡ get_or bs i 0 → b < 48 → number_from n (drop i bs) ≡ None
low_byte n bs i b h e low = no_digit n bs i b h e (below_digits b low)

pub high_byte : (n : ℕ) (bs : List ℕ) (i b : ℕ) → i < length bs → b ≡ get_or bs i 0 → 57 < b → number_from n (drop i bs) ≡ None
high_byte n bs i b h e high = no_digit n bs i b h e (above_digits b high)

-- more digits don't make a number less
pub too_large : (n : ℕ) (bs : List ℕ) → 10000 ≤ n → below_limit (number_from n bs) ≡ None
too_large n [] h = let large : nat_lt n 10000 ≡ false = grind (arith, nat_tests) in rw large refl
too_large n (b ∷ bs) h = either (is_digit b) (too_large (10 * n + (b - 48)) bs (omega arith))
  where
    either : (d : Bool) → below_limit (number_from (10 * n + (b - 48)) bs) ≡ None → below_limit (if d then number_from (10 * n + (b - 48)) bs else None) ≡ None
    either true e = e
    either false e = refl

pub small : (n : ℕ) → n < 10000 → below_limit (Some n) ≡ Some n
small n h = let below : nat_lt n 10000 ≡ true = grind (arith, nat_tests) in rw below refl
