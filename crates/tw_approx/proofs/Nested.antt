-- What waits, each part with the levels that it may nest.
use Rattle.std.proofs.Common.{◌≡◌, ℕ, ◌<◌, ◌≤◌, zero, suc, ◌+◌, max, List, [], ◌∷◌, ◌++◌, Bool, true, false, ◌&&◌, nat_le, if◌then◌else◌, refl, ap, ◌∙◌, arith}
use Rattle.std.proofs.Math.Nat.{le-max_left, le-max_right, max-le}
use Rattle.std.proofs.lemmas.Bool.Decides.{nat_tests}
use Rattle.lf.specs.Entries.{Entry}
use Rattle.tw_approx.specs.Nested.{all_within, is_within, steps, work}
use Rattle.tw_approx.specs.Nesting.{domain_depth, is_kept, written_depth}
use Rattle.tw_approx.specs.declared.waiting.Waiting.{Waiting}
use Rattle.tw_names.specs.Waiting.{size}
use Rattle.tw_parse.specs.Syntax.{Term, identifier, hole, star, arrow, pi, lambda, application, ascription}
use Rattle.tw_approx.proofs.Answering.{term_of-Pi}
use Rattle.tw_approx.proofs.Views.{shapes}

pub and-assoc : (x y z : Bool) → ((x && y) && z) ≡ (x && (y && z))
and-assoc true y z = refl
and-assoc false y z = refl

pub and-true : (x : Bool) → (x && true) ≡ x
and-true true = refl
and-true false = refl

pub max-within : (m n levels : ℕ) → nat_le (max m n) levels ≡ (nat_le m levels && nat_le n levels)
max-within m n levels = let l = le-max_left m n in let r = le-max_right m n in grind (arith, nat_tests, l, r, both)
  where
    both : m ≤ levels → n ≤ levels → max m n ≤ levels
    both p q = max-le p q

pub suc-within : (n levels : ℕ) → nat_le (suc n) (suc levels) ≡ nat_le n levels
suc-within n levels = grind (arith, nat_tests)

none-above : (n : ℕ) → nat_le (suc n) zero ≡ false
none-above n = grind (arith, nat_tests)

none-second : (m n : ℕ) → nat_le (max m (suc n)) zero ≡ false
none-second m n = let r = le-max_right m (suc n) in grind (arith, nat_tests, r)

none-of_row : (kept : Bool) (m n : ℕ) → nat_le (if kept then max m (suc n) else 1) zero ≡ false
none-of_row true m n = none-second m n
none-of_row false m n = refl

module _ (es : List Entry) where
  -- what has no level left isn't within
  pub none-within : (t : Term) → nat_le (written_depth es t) zero ≡ false
  none-within (identifier x at) = refl
  none-within (hole at) = refl
  none-within star = refl
  none-within (arrow U V) = none-above (max (written_depth es U) (written_depth es V))
  none-within (pi x at D V) = none-above (max (domain_depth es D) (written_depth es V))
  none-within (lambda x at D M) = none-above (written_depth es M)
  none-within (application M P) = none-of_row (is_kept es M) (written_depth es M) (written_depth es P)
  none-within (ascription M A) = none-within M

  pub all-last : (ws : List Waiting) (w : Waiting) → all_within es (ws ++ w ∷ []) ≡ (is_within es w && all_within es ws)
  all-last [] w = refl
  all-last (v ∷ ws) w = ap (λ b. is_within es v && b) (all-last ws w) ∙ swapped (is_within es v) (is_within es w) (all_within es ws)
    where
      swapped : (x y z : Bool) → (x && (y && z)) ≡ (y && (x && z))
      swapped true true z = refl
      swapped true false z = refl
      swapped false true z = refl
      swapped false false z = refl

-- each part is a step
pub size_some : (t : Term) → 0 < size t
size_some (identifier x at) = omega arith
size_some (hole at) = omega arith
size_some star = omega arith
size_some (arrow U V) = omega arith
size_some (pi x at D V) = omega arith
size_some (lambda x at D M) = omega arith
size_some (application M P) = omega arith
size_some (ascription M A) = omega arith

pub work-last : (ws : List Waiting) (w : Waiting) → work (ws ++ w ∷ []) ≡ steps w + work ws
work-last [] w = refl
work-last (v ∷ ws) w = let e = work-last ws w in omega (arith, e)

pub ruleset nested = (shapes, term_of-Pi, and-assoc, and-true, max-within, suc-within, none-within, all-last, work-last)
