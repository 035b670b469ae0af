-- What waits, where more comes behind it.
use Rattle.std.proofs.Common.{◌≡◌, ℕ, ◌+◌, List, [], ◌∷◌, ◌++◌, reverse, Bor, arith}
use Rattle.std.proofs.lemmas.List.{reverse-append}
use Rattle.lf.specs.Entries.{Entry}
use Rattle.lf.specs.AtOnce.{skeleton_size}
use Rattle.lf_elaboration.specs.Sites.{indices}
use Rattle.tw_terms.specs.View.{skeleton_of}
use Rattle.tw_terms.specs.declared.canonical.Skeleton.{Skeleton}
use Rattle.tw_written.specs.Parts.{work}
use Rattle.tw_written.specs.declared.part.Part.{Part}

pub next-first : {X : Type 0} (xs : List X) (x : X) → reverse (xs ++ x ∷ []) ≡ x ∷ reverse xs
next-first xs x = reverse-append xs (x ∷ [])

pub both-first : {X : Type 0} (xs : List X) (x y : X) → reverse (xs ++ y ∷ x ∷ []) ≡ x ∷ y ∷ reverse xs
both-first xs x y = reverse-append xs (y ∷ x ∷ [])

pub work-more : (ps qs : List Part) → work (ps ++ qs) ≡ work qs + work ps
work-more [] qs = omega arith
work-more (p ∷ ps) qs = let e = work-more ps qs in omega (arith, e)

-- the arguments of the families of skeletons
abbrev pub all_indices : List Entry → List (Bor Skeleton) → ℕ
all_indices es [] = 0
all_indices es (t ∷ ts) = indices es (skeleton_of t.now) + all_indices es ts

pub indices-more : (es : List Entry) (ts us : List (Bor Skeleton)) → all_indices es (ts ++ us) ≡ all_indices es us + all_indices es ts
indices-more es [] us = omega arith
indices-more es (t ∷ ts) us = let e = indices-more es ts us in omega (arith, e)

-- how many skeletons they are of
abbrev pub parts : List (Bor Skeleton) → ℕ
parts [] = 0
parts (t ∷ ts) = skeleton_size (skeleton_of t.now) + parts ts

pub parts-more : (ts us : List (Bor Skeleton)) → parts (ts ++ us) ≡ parts us + parts ts
parts-more [] us = omega arith
parts-more (t ∷ ts) us = let e = parts-more ts us in omega (arith, e)

pub ruleset waiting = (next-first, both-first, work-more, indices-more, parts-more)
