-- The skeletons of many shape variables.
use Rattle.std.proofs.Common.{◌≡◌, ℕ, zero, suc, ◌<◌, List, [], ◌∷◌, ◌++◌, map, reverse, slice_get, Some, ◌⊎◌, inl, inr, refl, sym, ap, ◌∙◌, subst}
use Rattle.std.proofs.lemmas.List.{map-append}
use Rattle.lf.specs.Depth.{depth_limit}
use Rattle.lf.specs.Syntax.{Skeleton, base}
use Rattle.tw_approx.specs.Answer.{HasDeep, Rows}
use Rattle.tw_approx.specs.Solving.{AreOpen, AreAlways, AreDeeper, AreSettled, IsLeftOpen, IsSolved, RowsAreAlways, numbers_of}
use Rattle.tw_approx.specs.Walks.{Assignment, State, Variables}
use Rattle.tw_approx.specs.declared.fault.ApproxFault.TheVariants.{TooDeep}
use Rattle.tw_shapes.specs.Depth.{skeleton_depth}
use Rattle.tw_shapes.specs.Shapes.{variable, Store, HasSolution, IsOpen, IsAlways, IsDeeper, IsSettled}

numbers_at : {A : Type 0} (h : A → ℕ) (θ ρ : Assignment) (xs : List A) (i : ℕ) (x : A) → slice_get xs i ≡ Some x → map θ (map h xs) ≡ map ρ (map h xs) → θ (h x) ≡ ρ (h x)
numbers_at h θ ρ [] i x e s = absurd cc
numbers_at h θ ρ (y ∷ xs) zero x e s = let t : y ≡ x = cc in let u : θ (h y) ≡ ρ (h y) = cc in subst (λ z. θ (h z) ≡ ρ (h z)) t u
numbers_at h θ ρ (y ∷ xs) (suc i) x e s = let u : map θ (map h xs) ≡ map ρ (map h xs) = cc in numbers_at h θ ρ xs i x e u

pub open_at : {A : Type 0} (h : A → ℕ) (s : Store) (xs : List A) (i : ℕ) (x : A) → slice_get xs i ≡ Some x → IsOpen s (variable (h x)) → AreOpen s (map h xs)
open_at h s xs i x e o = record { first = o.first; second = o.second; first_solves = o.first_solves; second_solves = o.second_solves; differ = λ d. o.differ (numbers_at h o.first o.second xs i x e d) }

numbers_are : {A : Type 0} (g : A → List ℕ × ℕ) (xs : List A) → map (λ x. (g x).1) xs ≡ numbers_of (map g xs)
numbers_are g [] = refl
numbers_are g (x ∷ xs) = ap (λ ms. (g x).1 ∷ ms) (numbers_are g xs)

pub row_open_at : {A : Type 0} (g : A → List ℕ × ℕ) (s : Store) (xs : List A) (i : ℕ) (x : A) → slice_get xs i ≡ Some x → IsOpen s (variable (g x).1) → AreOpen s (numbers_of (map g xs))
row_open_at g s xs i x e o = subst (AreOpen s) (numbers_are g xs) (open_at (λ y. (g y).1) s xs i x e o)

-- one more
pub always_more : {A : Type 0} (h : A → ℕ) (s : Store) (xs ys : List A) (x : A) (ks ls : List Skeleton) (k : Skeleton) → ys ≡ xs ++ x ∷ [] → ls ≡ ks ++ k ∷ [] → IsAlways s (variable (h x)) k → AreAlways s (map h xs) ks → AreAlways s (map h ys) ls
always_more h s xs ys x ks ls k e f a b = λ θ g.
    ap (λ zs. map θ (map h zs)) e ∙ ap (map θ) (map-append h xs (x ∷ [])) ∙ map-append θ (map h xs) (h x ∷ []) ∙ ap (λ ms. ms ++ θ (h x) ∷ []) (b θ g) ∙ ap (λ l. ks ++ l ∷ []) (a θ g) ∙ sym f

abbrev row_under : Assignment → List ℕ × ℕ → List ℕ × Skeleton
row_under θ p = (p.0, θ p.1)

pub rows_more : {A : Type 0} (g : A → List ℕ × ℕ) (s : Store) (xs ys : List A) (x : A) (rows more : Rows) (k : Skeleton) → ys ≡ xs ++ x ∷ [] → more ≡ rows ++ ((g x).0, k) ∷ [] → IsAlways s (variable (g x).1) k → RowsAreAlways s (map g xs) rows → RowsAreAlways s (map g ys) more
rows_more g s xs ys x rows more k e f a b = λ θ h.
    ap (λ zs. map (row_under θ) (map g zs)) e ∙ ap (map (row_under θ)) (map-append g xs (x ∷ [])) ∙ map-append (row_under θ) (map g xs) (g x ∷ []) ∙ ap (λ rs. rs ++ row_under θ (g x) ∷ []) (b θ h) ∙ ap (λ (l : Skeleton). rows ++ ((g x).0, l) ∷ []) (a θ h) ∙ sym f

-- the same skeleton at each place
pub settled_at : {A : Type 0} (h : A → ℕ) (s : Store) (xs : List A) (i : ℕ) (x : A) (ks : List Skeleton) → slice_get xs i ≡ Some x → AreAlways s (map h xs) ks → IsSettled s (variable (h x))
settled_at h s [] i x ks e a = absurd cc
settled_at h s (y ∷ xs) zero x [] e a = (base 0, λ θ g. let l : map θ (map h (y ∷ xs)) ≡ [] = a θ g in absurd cc)
settled_at h s (y ∷ xs) zero x (k ∷ ks) e a =
    let t : y ≡ x = cc in
    (k, λ θ g. let l : map θ (map h (y ∷ xs)) ≡ k ∷ ks = a θ g in let u : θ (h y) ≡ k = cc in subst (λ z. θ (h z) ≡ k) t u)
settled_at h s (y ∷ xs) (suc i) x [] e a = (base 0, λ θ g. let l : map θ (map h (y ∷ xs)) ≡ [] = a θ g in absurd cc)
settled_at h s (y ∷ xs) (suc i) x (k ∷ ks) e a = settled_at h s xs i x ks e (λ θ g. let l : map θ (map h (y ∷ xs)) ≡ k ∷ ks = a θ g in cc)

pub settled_more : {A : Type 0} (h : A → ℕ) (s : Store) (xs ys : List A) (x : A) → ys ≡ xs ++ x ∷ [] → IsSettled s (variable (h x)) → AreSettled s (map h xs) → AreSettled s (map h ys)
settled_more h s xs ys x e a b = (b.0 ++ a.0 ∷ [], always_more h s xs ys x b.0 (b.0 ++ a.0 ∷ []) a.0 e refl a.1 b.1)

deep_at : {A : Type 0} (h : A → ℕ) (θ : Assignment) (xs : List A) (i : ℕ) (x : A) → slice_get xs i ≡ Some x → HasDeep (θ (h x) ∷ []) → HasDeep (map θ (map h xs))
deep_at h θ [] i x e d = absurd cc
deep_at h θ (y ∷ xs) zero x e d =
    let t : x ≡ y = cc in
    elim d as (λ _. HasDeep (map θ (map h (y ∷ xs)))) [ inl l ↦ inl (subst (λ z. depth_limit < skeleton_depth (θ (h z))) t l) | inr n ↦ absurd n ]
deep_at h θ (y ∷ xs) (suc i) x e d = inr (deep_at h θ xs i x e d)

pub deeper_at : {A : Type 0} (h : A → ℕ) (s : Store) (xs : List A) (i : ℕ) (x : A) → slice_get xs i ≡ Some x → IsDeeper depth_limit s (variable (h x)) → AreDeeper s (map h xs)
deeper_at h s xs i x e d = λ θ g. deep_at h θ xs i x e (inl (d θ g))

-- of rows
pub row_settled_at : {A : Type 0} (g : A → List ℕ × ℕ) (s : Store) (xs : List A) (i : ℕ) (x : A) → slice_get xs i ≡ Some x → AreSettled s (numbers_of (map g xs)) → IsSettled s (variable (g x).1)
row_settled_at g s xs i x e a = let b = subst (AreSettled s) (sym (numbers_are g xs)) a in settled_at (λ y. (g y).1) s xs i x b.0 e b.1

pub row_settled_more : {A : Type 0} (g : A → List ℕ × ℕ) (s : Store) (xs ys : List A) (x : A) → ys ≡ xs ++ x ∷ [] → IsSettled s (variable (g x).1) → AreSettled s (numbers_of (map g xs)) → AreSettled s (numbers_of (map g ys))
row_settled_more g s xs ys x e a b = subst (AreSettled s) (numbers_are g ys) (settled_more (λ y. (g y).1) s xs ys x e a (subst (AreSettled s) (sym (numbers_are g xs)) b))

pub row_deeper_at : {A : Type 0} (g : A → List ℕ × ℕ) (s : Store) (xs : List A) (i : ℕ) (x : A) → slice_get xs i ≡ Some x → IsDeeper depth_limit s (variable (g x).1) → AreDeeper s (numbers_of (map g xs))
row_deeper_at g s xs i x e d = subst (AreDeeper s) (numbers_are g xs) (deeper_at (λ y. (g y).1) s xs i x e d)

-- the rows of what is settled
rows_same : (θ ρ : Assignment) (xs : Variables) → map θ (numbers_of xs) ≡ map ρ (numbers_of xs) → map (row_under θ) xs ≡ map (row_under ρ) xs
rows_same θ ρ [] e = refl
rows_same θ ρ (x ∷ xs) e =
    let first : θ x.1 ≡ ρ x.1 = cc in
    let rest : map θ (numbers_of xs) ≡ map ρ (numbers_of xs) = cc in
    ap (λ k. (x.0, k) ∷ map (row_under θ) xs) first ∙ ap (λ rs. row_under ρ x ∷ rs) (rows_same θ ρ xs rest)

skeletons_same : (θ : Assignment) (xs : Variables) → map (λ r. r.1) (map (row_under θ) xs) ≡ map θ (numbers_of xs)
skeletons_same θ [] = refl
skeletons_same θ (x ∷ xs) = ap (λ ks. θ x.1 ∷ ks) (skeletons_same θ xs)

pub left_deep : (t : State) → HasSolution t.store → AreSettled t.store t.omitted → AreSettled t.store (numbers_of (reverse t.variables)) → AreDeeper t.store t.omitted ⊎ AreDeeper t.store (numbers_of (reverse t.variables)) → IsLeftOpen t TooDeep
left_deep t (θ, h) o f d =
    let rows : Rows = map (row_under θ) (reverse t.variables) in
    let solved : IsSolved t rows o.0 = record { solution = (θ, h); free = λ ρ g. rows_same ρ θ (reverse t.variables) (f.1 ρ g ∙ sym (f.1 θ h)); omitted = o.1 } in (
      rows,
      o.0,
      solved,
      elim d as (λ _. HasDeep (map (λ r. r.1) rows) ⊎ HasDeep o.0) [
        | inl a ↦ inr (subst HasDeep (o.1 θ h) (a θ h))
        | inr b ↦ inl (subst HasDeep (sym (skeletons_same θ (reverse t.variables))) (b θ h))
      ],
    )
