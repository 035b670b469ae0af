-- What waits to be gone over, where more comes behind it.
use Rattle.std.proofs.Common.{◌≡◌, ℕ, ◌+◌, List, [], ◌∷◌, ◌++◌, reverse, append_assoc, arith}
use Rattle.std.proofs.lemmas.List.{reverse-append}
use Rattle.tw_approx.specs.Lambdas.{work}
use Rattle.tw_approx.specs.declared.lambdas.Part.{Part}
use Rattle.tw_approx.proofs.Places.{places}

pub next-first : {X : Type 0} (xs : List X) (x : X) → reverse (xs ++ x ∷ []) ≡ x ∷ reverse xs
next-first xs x = reverse-append xs (x ∷ [])

pub both-first : {X : Type 0} (xs : List X) (x y : X) → reverse (xs ++ y ∷ x ∷ []) ≡ x ∷ y ∷ reverse xs
both-first xs x y = reverse-append xs (y ∷ x ∷ [])

pub work-more : (ps qs : List Part) → work (ps ++ qs) ≡ work qs + work ps
work-more [] qs = omega arith
work-more (p ∷ ps) qs = let e = work-more ps qs in omega (arith, e)

pub ruleset gone_over = (places, next-first, both-first, work-more, append_assoc)
