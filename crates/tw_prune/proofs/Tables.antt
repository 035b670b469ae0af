-- The table of a pattern is its inverse, also under binders.
use Rattle.std.proofs.Common.{◌≡◌, ℕ, zero, suc, ◌+◌, ◌-◌, ◌<◌, ◌≤◌, List, [], ◌∷◌, length, Option, Some, None, ◌⊎◌, inl, inr, refl, sym, ap, ◌∙◌, subst, arith}
use Rattle.std.specs.Prelude.{slice_get, option_map, nat_lt, true, false, if◌then◌else◌}
use Rattle.lf.specs.AtOnce.{lift_renaming_by}
use Rattle.lf.specs.Syntax.{LfType, Skeleton, arrow, base}
use Rattle.lf_unification.specs.Patterns.{InImage, Injective, LiftedSet, PatternFits, beyond, extend_renaming, local_skeletons, pattern_renaming}
use Rattle.lf_unification.specs.Rigid.{LiftedSetBy}
use Rattle.lf_unification.proofs.Inverse.{up_injective}
use Rattle.tw_prune.specs.Standing.{StandsIn}
use Rattle.tw_prune.specs.Tables.{IsTableOf}
use Rattle.tw_prune.specs.Walks.{Table, behind, place_of, place_or}
use Rattle.tw_prune.proofs.Options.{lt_tells, map_some, map_none, some_or_none, some_not_none}

pub lift_low : (k : ℕ) (ρ : ℕ → ℕ) (i : ℕ) → i < k → lift_renaming_by k ρ i ≡ i
lift_low zero ρ i h = absurd (omega arith)
lift_low (suc k) ρ zero h = refl
lift_low (suc k) ρ (suc i) h = ap suc (lift_low k ρ i (omega arith))

pub lift_high : (k : ℕ) (ρ : ℕ → ℕ) (i : ℕ) → lift_renaming_by k ρ (i + k) ≡ ρ i + k
lift_high zero ρ i = let e : i + 0 ≡ i = omega arith in let f : ρ i ≡ ρ i + 0 = omega arith in ap ρ e ∙ f
lift_high (suc k) ρ i = let e : i + suc k ≡ suc (i + k) = omega arith in let f : suc (ρ i + k) ≡ ρ i + suc k = omega arith in ap (lift_renaming_by (suc k) ρ) e ∙ ap suc (lift_high k ρ i) ∙ f

pub lift_injective : (k : ℕ) (ρ : ℕ → ℕ) → Injective ρ → Injective (lift_renaming_by k ρ)
lift_injective zero ρ h = h
lift_injective (suc k) ρ h = up_injective (lift_renaming_by k ρ) (lift_injective k ρ h)

-- a set of variables under k more binders
pub lifted_high : (k : ℕ) (P : ℕ → Type 0) (i : ℕ) → P i → LiftedSetBy k P (i + k)
lifted_high zero P i p = let e : i ≡ i + 0 = omega arith in subst P e p
lifted_high (suc k) P i p = let e : suc i + k ≡ i + suc k = omega arith in subst (LiftedSetBy k (LiftedSet P)) e (lifted_high k (LiftedSet P) (suc i) p)

pub lowered : (k : ℕ) (P : ℕ → Type 0) (i : ℕ) → LiftedSetBy k P (i + k) → P i
lowered zero P i p = let e : i + 0 ≡ i = omega arith in subst P e p
lowered (suc k) P i p = let e : i + suc k ≡ suc i + k = omega arith in lowered k (LiftedSet P) (suc i) (subst (LiftedSetBy k (LiftedSet P)) e p)

pub lifted_low : (k : ℕ) (P : ℕ → Type 0) (i : ℕ) → i < k → LiftedSetBy k P i
lifted_low zero P i h = absurd (omega arith)
lifted_low (suc k) P i h = go (lt_tells i k) (lifted_low k (LiftedSet P) i)
  where
    go : ((nat_lt i k ≡ true) × (i < k)) ⊎ ((nat_lt i k ≡ false) × (k ≤ i)) → (i < k → LiftedSetBy k (LiftedSet P) i) → LiftedSetBy k (LiftedSet P) i
    go (inl (e, l)) below = below l
    go (inr (e, l)) below = let q : 0 + k ≡ i = omega arith in subst (LiftedSetBy k (LiftedSet P)) q (lifted_high k (LiftedSet P) 0 tt)

-- the table gives for each variable what the renaming makes it of
pub record IsInverse (T : Table) (ρ : ℕ → ℕ) : Type 0 where
  pub found : (v j : ℕ) → place_of T v ≡ Some j → ρ j ≡ v
  pub lacking : (v : ℕ) → place_of T v ≡ None → InImage ρ v → ⊥

pub behind_cases : (T : Table) (k v : ℕ) → ((v < k) × (behind T k v ≡ Some v)) ⊎ ((k ≤ v) × (behind T k v ≡ option_map (λ place. place + k) (place_of T (v - k))))
behind_cases T k v = go (lt_tells v k)
  where
    go : ((nat_lt v k ≡ true) × (v < k)) ⊎ ((nat_lt v k ≡ false) × (k ≤ v)) → ((v < k) × (behind T k v ≡ Some v)) ⊎ ((k ≤ v) × (behind T k v ≡ option_map (λ place. place + k) (place_of T (v - k))))
    go (inl (e, l)) = inl (l, ap (λ b. if b then Some v else option_map (λ place. place + k) (place_of T (v - k))) e)
    go (inr (e, l)) = inr (l, ap (λ b. if b then Some v else option_map (λ place. place + k) (place_of T (v - k))) e)

module _ (T : Table) (ρ : ℕ → ℕ) (inverse : IsInverse T ρ) where
  pub behind_found : (k v j : ℕ) → behind T k v ≡ Some j → lift_renaming_by k ρ j ≡ v
  behind_found k v j e = go (behind_cases T k v)
    where
      go : ((v < k) × (behind T k v ≡ Some v)) ⊎ ((k ≤ v) × (behind T k v ≡ option_map (λ place. place + k) (place_of T (v - k)))) → lift_renaming_by k ρ j ≡ v
      go (inl (l, f)) = let q : j ≡ v = cc in subst (λ x. lift_renaming_by k ρ x ≡ v) (sym q) (lift_low k ρ v l)
      go (inr (l, f)) =
          let (p, g, q) = map_some (λ place. place + k) (place_of T (v - k)) j (sym f ∙ e) in
          let r : ρ p ≡ v - k = inverse.found (v - k) p g in
          let s : lift_renaming_by k ρ (p + k) ≡ ρ p + k = lift_high k ρ p in
          let t : ρ p + k ≡ v = omega arith in
          subst (λ x. lift_renaming_by k ρ x ≡ v) q (s ∙ t)

  pub behind_allowed : (k v j : ℕ) → behind T k v ≡ Some j → LiftedSetBy k (InImage ρ) v
  behind_allowed k v j e = go (behind_cases T k v)
    where
      go : ((v < k) × (behind T k v ≡ Some v)) ⊎ ((k ≤ v) × (behind T k v ≡ option_map (λ place. place + k) (place_of T (v - k)))) → LiftedSetBy k (InImage ρ) v
      go (inl (l, f)) = lifted_low k (InImage ρ) v l
      go (inr (l, f)) =
          let (p, g, q) = map_some (λ place. place + k) (place_of T (v - k)) j (sym f ∙ e) in
          let t : v - k + k ≡ v = omega arith in
          subst (LiftedSetBy k (InImage ρ)) t (lifted_high k (InImage ρ) (v - k) (p, inverse.found (v - k) p g))

  pub behind_lacking : (k v : ℕ) → behind T k v ≡ None → LiftedSetBy k (InImage ρ) v → ⊥
  behind_lacking k v e a = go (behind_cases T k v)
    where
      go : ((v < k) × (behind T k v ≡ Some v)) ⊎ ((k ≤ v) × (behind T k v ≡ option_map (λ place. place + k) (place_of T (v - k)))) → ⊥
      go (inl (l, f)) = cc
      go (inr (l, f)) =
          let t : v ≡ v - k + k = omega arith in
          inverse.lacking (v - k) (map_none (λ place. place + k) (place_of T (v - k)) (sym f ∙ e)) (lowered k (InImage ρ) (v - k) (subst (LiftedSetBy k (InImage ρ)) t a))

  -- what is renamed is found
  pub behind_back : (k j : ℕ) → Injective ρ → behind T k (lift_renaming_by k ρ j) ≡ Some j
  behind_back k j inj = go (some_or_none (behind T k (lift_renaming_by k ρ j)))
    where
      image : (k j : ℕ) → LiftedSetBy k (InImage ρ) (lift_renaming_by k ρ j)
      image k j = at (lt_tells j k)
        where
          at : ((nat_lt j k ≡ true) × (j < k)) ⊎ ((nat_lt j k ≡ false) × (k ≤ j)) → LiftedSetBy k (InImage ρ) (lift_renaming_by k ρ j)
          at (inl (e, l)) = subst (LiftedSetBy k (InImage ρ)) (sym (lift_low k ρ j l)) (lifted_low k (InImage ρ) j l)
          at (inr (e, l)) =
              let q : j - k + k ≡ j = omega arith in
              let r : lift_renaming_by k ρ j ≡ ρ (j - k) + k = subst (λ x. lift_renaming_by k ρ x ≡ ρ (j - k) + k) q (lift_high k ρ (j - k)) in
              subst (LiftedSetBy k (InImage ρ)) (sym r) (lifted_high k (InImage ρ) (ρ (j - k)) (j - k, refl))

      go : ((i : ℕ) × (behind T k (lift_renaming_by k ρ j) ≡ Some i)) ⊎ (behind T k (lift_renaming_by k ρ j) ≡ None) → behind T k (lift_renaming_by k ρ j) ≡ Some j
      go (inl (i, e)) = e ∙ ap Some (lift_injective k ρ inj i j (behind_found k (lift_renaming_by k ρ j) i e))
      go (inr e) = absurd (behind_lacking k (lift_renaming_by k ρ j) e (image k j))

-- the renaming of a pattern, by places
pub past_pattern : (Δ : List Skeleton) (t : Skeleton) (xs : List ℕ) (τ : ℕ → ℕ) (i : ℕ) → PatternFits Δ t xs → pattern_renaming t xs τ (i + length xs) ≡ τ i
past_pattern Δ (base c) [] τ i p = let e : i + 0 ≡ i = omega arith in ap τ e
past_pattern Δ (base c) (x ∷ xs) τ i p = absurd p
past_pattern Δ (arrow a b) [] τ i p = absurd p
past_pattern Δ (arrow a b) (x ∷ xs) τ i p =
    let e : i + length (x ∷ xs) ≡ suc i + length xs = omega arith in
    ap (pattern_renaming b xs (extend_renaming x τ)) e ∙ past_pattern Δ b xs (extend_renaming x τ) (suc i) p.1

pub in_pattern_at : (Δ : List Skeleton) (t : Skeleton) (xs : List ℕ) (τ : ℕ → ℕ) (k j v : ℕ) → PatternFits Δ t xs → k + j + 1 ≡ length xs → slice_get xs k ≡ Some v → pattern_renaming t xs τ j ≡ v
in_pattern_at Δ (base c) [] τ k j v p e g = cc
in_pattern_at Δ (base c) (x ∷ xs) τ k j v p e g = absurd p
in_pattern_at Δ (arrow a b) [] τ k j v p e g = absurd p
in_pattern_at Δ (arrow a b) (x ∷ xs) τ zero j v p e g =
    let q : j ≡ 0 + length xs = omega arith in
    let r : x ≡ v = cc in
    ap (pattern_renaming b xs (extend_renaming x τ)) q ∙ past_pattern Δ b xs (extend_renaming x τ) 0 p.1 ∙ r
in_pattern_at Δ (arrow a b) (x ∷ xs) τ (suc k) j v p e g = in_pattern_at Δ b xs (extend_renaming x τ) k j v p.1 (omega arith) g

pub get_below : {A : Type 0} (xs : List A) (k : ℕ) → k < length xs → (x : A) × (slice_get xs k ≡ Some x)
get_below [] k h = absurd (omega arith)
get_below (x ∷ xs) zero h = (x, refl)
get_below (x ∷ xs) (suc k) h = get_below xs k (omega arith)

pub get_past : {A : Type 0} (xs : List A) (k : ℕ) → length xs ≤ k → slice_get xs k ≡ None
get_past [] k h = refl
get_past (x ∷ xs) zero h = absurd (omega arith)
get_past (x ∷ xs) (suc k) h = get_past xs k (omega arith)

pub get_some_below : {A : Type 0} (xs : List A) (k : ℕ) (x : A) → slice_get xs k ≡ Some x → k < length xs
get_some_below [] k x e = cc
get_some_below (y ∷ ys) zero x e = omega arith
get_some_below (y ∷ ys) (suc k) x e = let l = get_some_below ys k x e in omega (arith, l)

pub beyond_is : (D : List LfType) (i : ℕ) → beyond D i ≡ i + length D
beyond_is [] i = omega arith
beyond_is (A ∷ D) i = let e = beyond_is D i in omega (arith, e)

-- the table of a pattern is the inverse of its renaming
pub table_inverse : (xs : List ℕ) (inner : ℕ) (T : Table) → IsTableOf xs inner T → (D : List LfType) (t : Skeleton) → StandsIn inner D t xs → IsInverse T (pattern_renaming t xs (beyond D))
table_inverse xs inner T table D t stands = record { found = found; lacking = lacking }
  where
    fits : PatternFits (local_skeletons D []) t xs
    fits = stands.is_pattern.places []

    ρ : ℕ → ℕ
    ρ = pattern_renaming t xs (beyond D)

    past : (i : ℕ) → pattern_renaming t xs (beyond D) (i + length xs) ≡ i + inner
    past i = past_pattern (local_skeletons D []) t xs (beyond D) i fits ∙ beyond_is D i ∙ ap (λ n. i + n) stands.count

    found : (v j : ℕ) → place_of T v ≡ Some j → pattern_renaming t xs (beyond D) j ≡ v
    found v j e = go (slice_get T.places v) refl
      where
        go : (o : Option (Option ℕ)) → slice_get T.places v ≡ o → pattern_renaming t xs (beyond D) j ≡ v
        go None f =
            let l : (v < length T.places → ⊥) = λ h. let (x, g) = get_below T.places v h in some_not_none (slice_get T.places v) x g f in
            let q : v - length T.places + T.arity ≡ j = (let r : Some (v - length T.places + T.arity) ≡ Some j = sym (ap (λ o. place_or o (v - length T.places + T.arity)) f) ∙ e in cc) in
            let s : length T.places ≤ v = not_below l in
            let m = table.size in
            let n = table.lambdas in
            let u : (v - inner) + length xs ≡ j = omega arith in
            let w : (v - inner) + inner ≡ v = omega arith in
            subst (λ x. pattern_renaming t xs (beyond D) x ≡ v) u (past (v - inner) ∙ w)
          where
            not_below : (v < length T.places → ⊥) → length T.places ≤ v
            not_below n = at (lt_tells v (length T.places))
              where
                at : ((nat_lt v (length T.places) ≡ true) × (v < length T.places)) ⊎ ((nat_lt v (length T.places) ≡ false) × (length T.places ≤ v)) → length T.places ≤ v
                at (inl (h, l)) = absurd (n l)
                at (inr (h, l)) = l
        go (Some None) f = let r : None ≡ Some j = sym (ap (λ o. place_or o (v - length T.places + T.arity)) f) ∙ e in cc
        go (Some (Some i)) f =
            let r : Some i ≡ Some j = sym (ap (λ o. place_or o (v - length T.places + T.arity)) f) ∙ e in
            let q : i ≡ j = cc in
            let (k, s, g) = table.sound v i f in
            subst (λ x. pattern_renaming t xs (beyond D) x ≡ v) q (in_pattern_at (local_skeletons D []) t xs (beyond D) k i v fits s g)

    lacking : (v : ℕ) → place_of T v ≡ None → InImage (pattern_renaming t xs (beyond D)) v → ⊥
    lacking v e (j, h) = go (slice_get T.places v) refl
      where
        go : (o : Option (Option ℕ)) → slice_get T.places v ≡ o → ⊥
        go None f = let r : Some (v - length T.places + T.arity) ≡ None = sym (ap (λ o. place_or o (v - length T.places + T.arity)) f) ∙ e in cc
        go (Some (Some i)) f = let r : Some i ≡ None = sym (ap (λ o. place_or o (v - length T.places + T.arity)) f) ∙ e in cc
        go (Some None) f = at (lt_tells j (length xs))
          where
            at : ((nat_lt j (length xs) ≡ true) × (j < length xs)) ⊎ ((nat_lt j (length xs) ≡ false) × (length xs ≤ j)) → ⊥
            at (inl (_, l)) =
                let (w, g) = get_below xs (length xs - 1 - j) (omega arith) in
                let p : pattern_renaming t xs (beyond D) j ≡ w = in_pattern_at (local_skeletons D []) t xs (beyond D) (length xs - 1 - j) j w fits (omega arith) g in
                let q : w ≡ v = sym p ∙ h in
                table.complete v (length xs - 1 - j) (g ∙ ap Some q) f
            at (inr (_, l)) =
                let q : j - length xs + length xs ≡ j = omega arith in
                let r : pattern_renaming t xs (beyond D) j ≡ j - length xs + inner = subst (λ x. pattern_renaming t xs (beyond D) x ≡ j - length xs + inner) q (past (j - length xs)) in
                let s = get_some_below T.places v None f in
                let m = table.size in
                let u : v ≡ j - length xs + inner = sym h ∙ r in
                omega (arith, s, m, u)
