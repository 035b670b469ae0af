-- What waits, where one more comes behind it.
use Rattle.std.proofs.Common.{◌≡◌, ℕ, ◌+◌, List, [], ◌∷◌, ◌++◌, reverse, refl, arith}
use Rattle.std.proofs.lemmas.List.{reverse-append}
use Rattle.tw_names.specs.Waiting.{steps, work}
use Rattle.tw_names.specs.declared.waiting.Waiting.{Waiting}

pub next-first : {X : Type 0} (xs : List X) (x : X) → reverse (xs ++ x ∷ []) ≡ x ∷ reverse xs
next-first xs x = reverse-append xs (x ∷ [])

pub work-last : (ws : List Waiting) (w : Waiting) → work (ws ++ w ∷ []) ≡ steps w + work ws
work-last [] w = refl
work-last (v ∷ ws) w = let e = work-last ws w in omega (arith, e)

pub ruleset waiting = (next-first, work-last)
