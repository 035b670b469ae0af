-- Lists that are changed at one place.
use Rattle.std.proofs.Common.{◌≡◌, ℕ, zero, suc, List, [], ◌∷◌, length, map, Option, Some, None, refl, sym, ap, slice_set, slice_index_or, ◌<◌, arith}
use Rattle.std.specs.List.{insert, remove, slice_get}

pub map_insert : {A B : Type 0} (f : A → B) (xs : List A) (i : ℕ) (y : A) → map f (insert xs i y) ≡ insert (map f xs) i (f y)
map_insert f [] zero y = refl
map_insert f [] (suc i) y = refl
map_insert f (x ∷ xs) zero y = refl
map_insert f (x ∷ xs) (suc i) y = ap (λ zs. f x ∷ zs) (map_insert f xs i y)

pub map_remove : {A B : Type 0} (f : A → B) (xs : List A) (i : ℕ) → map f (remove xs i) ≡ remove (map f xs) i
map_remove f [] zero = refl
map_remove f [] (suc i) = refl
map_remove f (x ∷ xs) zero = refl
map_remove f (x ∷ xs) (suc i) = ap (λ zs. f x ∷ zs) (map_remove f xs i)

-- what was taken out, put back in its place
pub insert_removed : {A : Type 0} (xs : List A) (i : ℕ) (d : A) → i < length xs → insert (remove xs i) i (slice_index_or xs i d) ≡ xs
insert_removed [] i d h = absurd (omega arith)
insert_removed (x ∷ xs) zero d h = refl
insert_removed (x ∷ xs) (suc i) d h = ap (λ zs. x ∷ zs) (insert_removed xs i d (omega arith))

-- a value that is given where there was none, and taken away again
pub set_and_freed : {A : Type 0} (vs : List (Option A)) (m : ℕ) (N : A) → slice_get vs m ≡ Some None → slice_set (slice_set vs m (Some N)) m None ≡ vs
set_and_freed [] m N e = cc
set_and_freed (v ∷ vs) zero N e = let was : v ≡ None = cc in ap (λ w. w ∷ vs) (sym was)
set_and_freed (v ∷ vs) (suc m) N e = ap (λ ws. v ∷ ws) (set_and_freed vs m N e)

pub there : {A : Type 0} (vs : List A) (m : ℕ) (v : A) → slice_get vs m ≡ Some v → m < length vs
there [] m v e = cc
there (w ∷ vs) zero v e = omega arith
there (w ∷ vs) (suc m) v e = let h = there vs m v e in omega arith
