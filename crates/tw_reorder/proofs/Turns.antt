-- Which variables come in turn: those of the context, each of them.
use Rattle.std.proofs.Common.{◌≡◌, ℕ, zero, suc, ◌+◌, ◌<◌, List, [], ◌∷◌, ◌⊎◌, inl, inr, length, map, slice_get, Option, Some, None, refl, sym, ap, subst, arith}
use Rattle.lf.specs.Subordination.{Member}
use Rattle.lf.specs.Syntax.{LfType}
use Rattle.lf.specs.Typing.{IsContext, Signature}
use Rattle.lf_search.proofs.OpenQuery.{InContext, typed_only_type}
use Rattle.tw_abstract.specs.Occurrences.{noted}
use Rattle.tw_abstract.proofs.Members.{noted_either, noted_now}
use Rattle.tw_reorder.specs.Variables.{type_variables}
use Rattle.tw_reorder.specs.Waiting.{needs, needs_at, needs_in, outermost_first, through_types}
use Rattle.tw_reorder.proofs.Listed.{type_listed}

-- the numbers below n
pub below : (n v : ℕ) → Member v (outermost_first n) → v < n
below zero v m = absurd m
below (suc n) v (inl e) = omega (arith, e)
below (suc n) v (inr m) = let h : v < n = below n v m in omega (arith, h)

pub last_or_below : (n v : ℕ) → v < suc n → (v ≡ n) ⊎ (v < n)
last_or_below zero zero l = inl refl
last_or_below zero (suc v) l = absurd (omega (arith, l))
last_or_below (suc n) zero l = inr (omega arith)
last_or_below (suc n) (suc v) l = elim (last_or_below n v (omega arith)) [ inl e ↦ inl (ap suc e) | inr k ↦ inr (omega arith) ]

pub each_below : (n v : ℕ) → v < n → Member v (outermost_first n)
each_below zero v h = absurd (omega (arith, h))
each_below (suc n) v h = elim (last_or_below n v h) [ inl e ↦ inl e | inr l ↦ inr (each_below n v l) ]

pub in_context_below : (F : List LfType) (i : ℕ) → InContext F i → i < length F
in_context_below [] i (A, g) = absurd g
in_context_below (B ∷ F) zero x = omega arith
in_context_below (B ∷ F) (suc i) (A, (C, g, e)) = let h : i < length F = in_context_below F i (C, g) in omega (arith, h)

-- what is counted further out
pub moved_from : (by : ℕ) (xs : List ℕ) (w : ℕ) → Member w (map (λ i. i + suc by) xs) → (i : ℕ) × Member i xs × (w ≡ i + suc by)
moved_from by [] w m = absurd m
moved_from by (x ∷ xs) w (inl e) = (x, inl refl, e)
moved_from by (x ∷ xs) w (inr m) = let (i, j, e) = moved_from by xs w m in (i, inr j, e)

pub moved_to : (by : ℕ) (xs : List ℕ) (i : ℕ) → Member i xs → Member (i + suc by) (map (λ i. i + suc by) xs)
moved_to by [] i m = absurd m
moved_to by (x ∷ xs) i (inl e) = inl (ap (λ j. j + suc by) e)
moved_to by (x ∷ xs) i (inr m) = inr (moved_to by xs i m)

-- the variables in a type are those of the context outside of it
outside : (Σ : Signature) (F : List LfType) → IsContext Σ F → (v : ℕ) (A : LfType) → slice_get F v ≡ Some A → (i : ℕ) → Member i (type_variables 0 A) → i + suc v < length F
outside Σ [] c v A e i m = (let z : None ≡ Some A = e in cc)
outside Σ (B ∷ F) (c, t) zero A e i m =
    let same : B ≡ A = (let z : Some B ≡ Some A = e in cc) in
    let l : i < length F = in_context_below F i (type_listed (InContext F) B (typed_only_type Σ F B t) i (subst (λ X. Member i (type_variables 0 X)) (sym same) m)) in
    omega (arith, l)
outside Σ (B ∷ F) (c, t) (suc v) A e i m = let h : i + suc v < length F = outside Σ F c v A e i m in omega (arith, h)

occurs : (A : LfType) (i : ℕ) → Member i [] ⊎ Member i (type_variables 0 A) → Member i (type_variables 0 A)
occurs A i (inl n) = absurd n
occurs A i (inr n) = n

-- what a variable needs stands outside of it
pub needs_outside : (Σ : Signature) (F : List LfType) → IsContext Σ F → (v w : ℕ) → Member w (needs F v) → (v < w) × (w < length F)
needs_outside Σ F c v w m = go (slice_get F v) refl
  where
    go : (o : Option LfType) → slice_get F v ≡ o → (v < w) × (w < length F)
    go None e = absurd (let n : Member w [] = subst (λ x. Member w (needs_in v x)) e m in n)
    go (Some A) e =
        let n : Member w (map (λ i. i + suc v) (noted [] (type_variables 0 A))) = subst (λ x. Member w (needs_in v x)) e m in
        let (i, j, q) = moved_from v (noted [] (type_variables 0 A)) w n in
        let l : i + suc v < length F = outside Σ F c v A e i (occurs A i (noted_either [] (type_variables 0 A) i j)) in
        (omega (arith, q), omega (arith, q, l))

module _ (Σ : Signature) (F : List LfType) (c : IsContext Σ F) where
  at_within : (o : Option ℕ) (w : ℕ) → Member w (needs_at F o) → w < length F
  at_within None w m = absurd m
  at_within (Some v) w m = (needs_outside Σ F c v w m).1

  through_within : (n k : ℕ) (vs : List ℕ) → ((v : ℕ) → Member v vs → v < length F) → (v : ℕ) → Member v (through_types F n k vs) → v < length F
  through_within zero k vs h v m = h v m
  through_within (suc n) k vs h v m = through_within n (suc k) (noted vs (needs_at F (slice_get vs k))) (λ w i. elim (noted_either vs (needs_at F (slice_get vs k)) w i) [ inl j ↦ h w j | inr j ↦ at_within (slice_get vs k) w j ]) v m

  abbrev pub all_of : List ℕ → List ℕ
  all_of first = noted (through_types F (length F) 0 first) (outermost_first (length F))

  -- all that come are of the context
  pub each_within : (first : List ℕ) → ((v : ℕ) → Member v first → v < length F) → (v : ℕ) → Member v (all_of first) → v < length F
  each_within first h v m = elim (noted_either (through_types F (length F) 0 first) (outermost_first (length F)) v m) [ inl i ↦ through_within (length F) 0 first h v i | inr i ↦ below (length F) v i ]

  -- and all of these come
  pub each_comes : (first : List ℕ) (v : ℕ) → v < length F → Member v (all_of first)
  each_comes first v l = noted_now (through_types F (length F) 0 first) (outermost_first (length F)) v (each_below (length F) v l)
