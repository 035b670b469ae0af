-- Eta-long variables and patterns are recognized, and only they.
use Rattle.std.proofs.Common.{◌≡◌, ℕ, zero, suc, ◌+◌, ◌-◌, ◌<◌, ◌≤◌, List, [], ◌∷◌, length, Option, Some, None, ◌⊎◌, inl, inr, refl, sym, ap, ap₂, ◌∙◌, subst, arith}
use Rattle.std.specs.Prelude.{Bool, true, false, ◌&&◌, ◌||◌, not, nat_eq, nat_le, nat_lt, if◌then◌else◌}
use Rattle.std.proofs.lemmas.Bool.{eqb-true, eq-eqb, ltb-true, lt-ltb}
use Rattle.std.proofs.lemmas.Bool.Decides.{leb_tells}
use Rattle.lf.specs.Eta.{arity, eta_arguments, eta_long, lambdas}
use Rattle.lf.specs.SkeletonTyping.{HeadSkeletons, SkeletonAt, SpineSkeleton, TermSkeleton}
use Rattle.lf.specs.Syntax.{LfType, Skeleton, Spine, Term, app, arrow, base, constant, lambda, metavariable, nil, root, variable}
use Rattle.lf.proofs.AtOnce.{eta_at_once}
use Rattle.lf_unification.specs.Inversion.{IsPattern}
use Rattle.lf_unification.specs.Patterns.{InImage, Injective, PatternFits, beyond, context_under, eta_variable, extend_renaming, local_skeletons, pattern, pattern_renaming, skeleton_target}
use Rattle.lf_unification.proofs.ToSkeletons.{SkeletonAt-once}
use Rattle.tw_prune.specs.Walks.{are_new, are_newest, both, distinct_variables, eta_variable_under, is_variable, kept_if, variables_in}
use Rattle.tw_prune.proofs.Options.{both_some, lt_tells}
use Rattle.tw_prune.proofs.Tables.{beyond_is, past_pattern}

pub and_true : (b c : Bool) → (b && c) ≡ true → (b ≡ true) × (c ≡ true)
and_true true c e = (refl, e)
and_true false c e = cc

pub both_true : (b c : Bool) → b ≡ true → c ≡ true → (b && c) ≡ true
both_true true c e f = f
both_true false c e f = cc

pub le_true : (a b : ℕ) → nat_le a b ≡ true → a ≤ b
le_true a b e = go (leb_tells a b)
  where
    go : ((nat_le a b ≡ true) × (a ≤ b)) ⊎ ((nat_le a b ≡ false) × (b < a)) → a ≤ b
    go (inl (f, l)) = l
    go (inr (f, l)) = cc

pub true_le : (a b : ℕ) → a ≤ b → nat_le a b ≡ true
true_le a b h = go (leb_tells a b)
  where
    go : ((nat_le a b ≡ true) × (a ≤ b)) ⊎ ((nat_le a b ≡ false) × (b < a)) → nat_le a b ≡ true
    go (inl (f, l)) = f
    go (inr (f, l)) = absurd (omega arith)

if_some : {A : Type 0} (b : Bool) (x y : A) → (if b then Some x else None) ≡ Some y → (b ≡ true) × (x ≡ y)
if_some true x y e = (refl, cc)
if_some false x y e = cc

-- a variable outside the lambdas of a skeleton
pub under_forth : (t : Skeleton) (Γ : List Skeleton) (i : ℕ) (a : Skeleton) → SkeletonAt Γ i a → SkeletonAt (context_under t Γ) (i + arity t) a
under_forth (base c) Γ i a h = let e : i ≡ i + 0 = omega arith in subst (λ x. SkeletonAt Γ x a) e h
under_forth (arrow b t) Γ i a h = let e : suc i + arity t ≡ i + suc (arity t) = omega arith in subst (λ x. SkeletonAt (context_under t (b ∷ Γ)) x a) e (under_forth t (b ∷ Γ) (suc i) a h)

pub under_back : (t : Skeleton) (Γ : List Skeleton) (i : ℕ) (a : Skeleton) → SkeletonAt (context_under t Γ) (i + arity t) a → SkeletonAt Γ i a
under_back (base c) Γ i a h = let e : i + 0 ≡ i = omega arith in subst (λ x. SkeletonAt Γ x a) e h
under_back (arrow b t) Γ i a h = let e : i + suc (arity t) ≡ suc i + arity t = omega arith in under_back t (b ∷ Γ) (suc i) a (subst (λ x. SkeletonAt (context_under t (b ∷ Γ)) x a) e h)

is_this : (v : ℕ) (o : Option ℕ) → is_variable v o ≡ true → o ≡ Some v
is_this v None e = cc
is_this v (Some w) e = ap Some (eqb-true w v e)

this_is : (v : ℕ) (o : Option ℕ) → o ≡ Some v → is_variable v o ≡ true
this_is v o e = ap (is_variable v) e ∙ eq-eqb v v refl

module _ (κ : HeadSkeletons) where
  mutual
    eta_form : (M : Term) (c : ℕ) (Γ : List Skeleton) (a b : Skeleton) (Δ : List Skeleton) (x : ℕ) → context_under a Γ ≡ context_under b Δ → arity a ≡ c + arity b → skeleton_target a ≡ skeleton_target b → TermSkeleton κ Δ M b → eta_variable_under c M ≡ Some x →
        (M ≡ lambdas (arity b) (root (variable (x + arity a)) (eta_arguments a))) × SkeletonAt (context_under a Γ) (x + arity a) a
    eta_form (lambda M) c Γ a (base d) Δ x e n g m f = absurd m
    eta_form (lambda M) c Γ a (arrow b d) Δ x e n g m f =
        let k : arity a ≡ (c + 1) + arity d = omega (arith, n) in
        let (p, q) = eta_form M (c + 1) Γ a d (b ∷ Δ) x e k g m f in
        (ap lambda p, q)
    eta_form (root h S) c Γ a (arrow b d) Δ x e n g m f = absurd m
    eta_form (root (constant k) S) c Γ a (base d) Δ x e n g m f = cc
    eta_form (root (metavariable k) S) c Γ a (base d) Δ x e n g m f = cc
    eta_form (root (variable v) S) c Γ a (base d) Δ x e n g (t, at, s) f =
        let (y, r) = if_some (nat_le c v && are_newest c S) (v - c) x f in
        let (l, w) = and_true (nat_le c v) (are_newest c S) y in
        let u : c ≡ arity a = omega (arith, n) in
        let (p, q) = newest_form S a Γ t d c u g (subst (λ E. SpineSkeleton κ E S t (base d)) (sym e) s) w in
        let le = le_true c v l in
        let z : v ≡ x + arity a = omega (arith, le, r, u) in
        (ap₂ (λ i X. root (variable i) X) z q, subst (λ i. SkeletonAt (context_under a Γ) i a) z (subst (SkeletonAt (context_under a Γ) v) p (subst (λ E. SkeletonAt E v t) (sym e) at)))

    newest_form : (S : Spine) (a : Skeleton) (Γ : List Skeleton) (t : Skeleton) (d c : ℕ) → c ≡ arity a → skeleton_target a ≡ d → SpineSkeleton κ (context_under a Γ) S t (base d) → are_newest c S ≡ true → (t ≡ a) × (S ≡ eta_arguments a)
    newest_form nil (base u) Γ t d c n g s f = (s ∙ ap base (sym g), refl)
    newest_form nil (arrow a b) Γ t d c n g s f = let z : c ≡ 0 = eqb-true c 0 f in absurd (omega arith)
    newest_form (app M S) a Γ (base u) d c n g s f = absurd s
    newest_form (app M S) (base u) Γ (arrow t r) d c n g s f =
        let (p, q) = and_true (nat_lt 0 c && is_variable (c - 1) (eta_variable_under 0 M)) (are_newest (c - 1) S) f in
        let (l, w) = and_true (nat_lt 0 c) (is_variable (c - 1) (eta_variable_under 0 M)) p in
        let z : 0 < c = ltb-true 0 c l in
        absurd (omega arith)
    newest_form (app M S) (arrow a b) Γ (arrow t r) d c n g (m, s) f =
        let (p, q) = and_true (nat_lt 0 c && is_variable (c - 1) (eta_variable_under 0 M)) (are_newest (c - 1) S) f in
        let (l, w) = and_true (nat_lt 0 c) (is_variable (c - 1) (eta_variable_under 0 M)) p in
        let k : c - 1 ≡ arity b = omega (arith, n) in
        let k' : arity b ≡ 0 + arity b = omega arith in
        let (x, y) = eta_form M 0 (context_under b (a ∷ Γ)) t t (context_under b (a ∷ Γ)) (c - 1) refl (omega arith) refl m (is_this (c - 1) (eta_variable_under 0 M) w) in
        let here : SkeletonAt (context_under b (a ∷ Γ)) (c - 1) t = under_back t (context_under b (a ∷ Γ)) (c - 1) t y in
        let there : SkeletonAt (context_under b (a ∷ Γ)) (c - 1) a = subst (λ i. SkeletonAt (context_under b (a ∷ Γ)) i a) (sym (k ∙ k')) (under_forth b (a ∷ Γ) 0 a refl) in
        let same : t ≡ a = SkeletonAt-once (context_under b (a ∷ Γ)) (c - 1) t a here there in
        let (u, v) = newest_form S b (a ∷ Γ) r d (c - 1) k g s q in
        let form : M ≡ eta_long a (variable (arity b)) = x ∙ sym (eta_at_once t (variable (c - 1))) ∙ ap₂ (λ z i. eta_long z (variable i)) same k in
        (ap₂ arrow same u, ap₂ app form v)

  -- what is recognized is the eta-long form of a variable of its skeleton
  pub eta_found : (Γ : List Skeleton) (M : Term) (a : Skeleton) (x : ℕ) → TermSkeleton κ Γ M a → eta_variable_under 0 M ≡ Some x → (M ≡ eta_variable a x) × SkeletonAt Γ x a
  eta_found Γ M a x m f =
      let (p, q) = eta_form M 0 Γ a a Γ x refl (omega arith) refl m f in
      (p ∙ sym (eta_at_once a (variable x)), under_back a Γ x a q)

  pub variables_found : (S : Spine) (t : Skeleton) (Δ : List Skeleton) (c : ℕ) (xs : List ℕ) → SpineSkeleton κ Δ S t (base c) → variables_in S ≡ Some xs → (S ≡ pattern t xs) × PatternFits Δ t xs
  variables_found nil t Δ c xs s e =
      let q : [] ≡ xs = cc in
      subst (λ ys. (nil ≡ pattern t ys) × PatternFits Δ t ys) q (subst (λ u. (nil ≡ pattern u []) × PatternFits Δ u []) (sym s) (refl, tt))
  variables_found (app M S) (base u) Δ c xs s e = absurd s
  variables_found (app M S) (arrow a b) Δ c xs (m, s) e =
      let (x, ys, f, g, q) = both_some (λ x xs. x ∷ xs) (eta_variable_under 0 M) (variables_in S) xs e in
      let (p, at) = eta_found Δ M a x m f in
      let (r, fits) = variables_found S b Δ c ys s g in
      subst (λ zs. (app M S ≡ pattern (arrow a b) zs) × PatternFits Δ (arrow a b) zs) q (ap₂ app p r, (at, fits))

-- eta-long forms are recognized
under_more : (n c : ℕ) (M : Term) → eta_variable_under c (lambdas n M) ≡ eta_variable_under (c + n) M
under_more zero c M = let e : c ≡ c + 0 = omega arith in ap (λ k. eta_variable_under k M) e
under_more (suc n) c M = let e : (c + 1) + n ≡ c + suc n = omega arith in under_more n (c + 1) M ∙ ap (λ k. eta_variable_under k M) e

eta_by : (a : Skeleton) (x : ℕ) → are_newest (arity a) (eta_arguments a) ≡ true → eta_variable_under 0 (eta_variable a x) ≡ Some x
eta_by a x h =
    let z : 0 + arity a ≡ arity a = omega arith in
    let l : arity a ≤ x + arity a = omega arith in
    let r : x + arity a - arity a ≡ x = omega arith in
    ap (eta_variable_under 0) (eta_at_once a (variable x)) ∙ under_more (arity a) 0 (root (variable (x + arity a)) (eta_arguments a))
    ∙ ap (λ k. eta_variable_under k (root (variable (x + arity a)) (eta_arguments a))) z
    ∙ ap (λ b. if b then Some (x + arity a - arity a) else None) (both_true (nat_le (arity a) (x + arity a)) (are_newest (arity a) (eta_arguments a)) (true_le (arity a) (x + arity a) l) h) ∙ ap Some r

newest_recognized : (a : Skeleton) → are_newest (arity a) (eta_arguments a) ≡ true
newest_recognized (base c) = refl
newest_recognized (arrow a b) =
    let k : arity b ≡ suc (arity b) - 1 = omega arith in
    let l : 0 < suc (arity b) = omega arith in
    let p : is_variable (suc (arity b) - 1) (eta_variable_under 0 (eta_long a (variable (arity b)))) ≡ true = subst (λ n. is_variable n (eta_variable_under 0 (eta_long a (variable (arity b)))) ≡ true) k (this_is (arity b) (eta_variable_under 0 (eta_long a (variable (arity b)))) (eta_by a (arity b) (newest_recognized a))) in
    let q : are_newest (suc (arity b) - 1) (eta_arguments b) ≡ true = subst (λ n. are_newest n (eta_arguments b) ≡ true) k (newest_recognized b) in
    both_true (nat_lt 0 (suc (arity b)) && is_variable (suc (arity b) - 1) (eta_variable_under 0 (eta_long a (variable (arity b))))) (are_newest (suc (arity b) - 1) (eta_arguments b))
    (both_true (nat_lt 0 (suc (arity b))) (is_variable (suc (arity b) - 1) (eta_variable_under 0 (eta_long a (variable (arity b))))) (lt-ltb 0 (suc (arity b)) l) p) q

pub eta_recognized : (a : Skeleton) (x : ℕ) → eta_variable_under 0 (eta_variable a x) ≡ Some x
eta_recognized a x = eta_by a x (newest_recognized a)

pub variables_recognized : (Δ : List Skeleton) (t : Skeleton) (ys : List ℕ) → PatternFits Δ t ys → variables_in (pattern t ys) ≡ Some ys
variables_recognized Δ (base c) [] p = refl
variables_recognized Δ (base c) (y ∷ ys) p = absurd p
variables_recognized Δ (arrow a b) [] p = absurd p
variables_recognized Δ (arrow a b) (y ∷ ys) p = ap₂ (both_lists) (eta_recognized a y) (variables_recognized Δ b ys p.1)
  where
    both_lists : Option ℕ → Option (List ℕ) → Option (List ℕ)
    both_lists o r = both (λ x xs. x ∷ xs) o r

-- distinct variables
new_parts : (seen : ℕ → Bool) (bound x : ℕ) (xs : List ℕ) → are_new seen bound (x ∷ xs) ≡ true → (x < bound) × (seen x ≡ false) × (are_new (λ y. nat_eq y x || seen y) bound xs ≡ true)
new_parts seen bound x xs e =
    let (p, q) = and_true (nat_lt x bound && not (seen x)) (are_new (λ y. nat_eq y x || seen y) bound xs) e in
    let (l, n) = and_true (nat_lt x bound) (not (seen x)) p in
    (ltb-true x bound l, not_true (seen x) n, q)
  where
    not_true : (b : Bool) → not b ≡ true → b ≡ false
    not_true true h = cc
    not_true false h = refl

or_left : (b c : Bool) → b ≡ true → (b || c) ≡ true
or_left true c e = refl
or_left false c e = cc

or_right : (b c : Bool) → c ≡ true → (b || c) ≡ true
or_right true c e = refl
or_right false c e = e

or_true : (b c : Bool) → (b || c) ≡ true → (b ≡ true) ⊎ (c ≡ true)
or_true true c e = inl refl
or_true false c e = inr e

new_is_injective : (Δ : List Skeleton) (t : Skeleton) (xs : List ℕ) (τ : ℕ → ℕ) (seen : ℕ → Bool) (bound : ℕ) → PatternFits Δ t xs → Injective τ → ((j : ℕ) → (bound ≤ τ j) ⊎ (seen (τ j) ≡ true)) → are_new seen bound xs ≡ true → Injective (pattern_renaming t xs τ)
new_is_injective Δ (base c) [] τ seen bound p i h e = i
new_is_injective Δ (base c) (x ∷ xs) τ seen bound p i h e = absurd p
new_is_injective Δ (arrow a b) [] τ seen bound p i h e = absurd p
new_is_injective Δ (arrow a b) (x ∷ xs) τ seen bound p i h e =
    let (l, n, q) = new_parts seen bound x xs e in
    new_is_injective Δ b xs (extend_renaming x τ) (λ y. nat_eq y x || seen y) bound p.1 (injective l n) old q
  where
    apart : x < bound → seen x ≡ false → (j : ℕ) → x ≡ τ j → ⊥
    apart l n j f = go (h j)
      where
        go : (bound ≤ τ j) ⊎ (seen (τ j) ≡ true) → ⊥
        go (inl k) = omega (arith, l, f, k)
        go (inr k) = let r : false ≡ true = sym n ∙ ap seen f ∙ k in cc

    injective : x < bound → seen x ≡ false → Injective (extend_renaming x τ)
    injective l n zero zero f = refl
    injective l n zero (suc j) f = absurd (apart l n j f)
    injective l n (suc k) zero f = absurd (apart l n k (sym f))
    injective l n (suc k) (suc j) f = ap suc (i k j f)

    old : (j : ℕ) → (bound ≤ extend_renaming x τ j) ⊎ ((nat_eq (extend_renaming x τ j) x || seen (extend_renaming x τ j)) ≡ true)
    old zero = inr (or_left (nat_eq x x) (seen x) (eq-eqb x x refl))
    old (suc j) = go (h j)
      where
        go : (bound ≤ τ j) ⊎ (seen (τ j) ≡ true) → (bound ≤ τ j) ⊎ ((nat_eq (τ j) x || seen (τ j)) ≡ true)
        go (inl k) = inl k
        go (inr k) = inr (or_right (nat_eq (τ j) x) (seen (τ j)) k)

outside_injective : (Δ : List Skeleton) (t : Skeleton) (xs : List ℕ) (τ : ℕ → ℕ) → PatternFits Δ t xs → Injective (pattern_renaming t xs τ) → Injective τ
outside_injective Δ t xs τ p h i j e =
    let q : i + length xs ≡ j + length xs = h (i + length xs) (j + length xs) (past_pattern Δ t xs τ i p ∙ e ∙ sym (past_pattern Δ t xs τ j p)) in
    omega (arith, q)

injective_is_new : (Δ : List Skeleton) (t : Skeleton) (xs : List ℕ) (τ : ℕ → ℕ) (seen : ℕ → Bool) (bound : ℕ) → PatternFits Δ t xs → Injective (pattern_renaming t xs τ) → ((v : ℕ) → bound ≤ v → InImage τ v) → ((v : ℕ) → seen v ≡ true → InImage τ v) → are_new seen bound xs ≡ true
injective_is_new Δ (base c) [] τ seen bound p i h g = refl
injective_is_new Δ (base c) (x ∷ xs) τ seen bound p i h g = absurd p
injective_is_new Δ (arrow a b) [] τ seen bound p i h g = absurd p
injective_is_new Δ (arrow a b) (x ∷ xs) τ seen bound p i h g =
    both_true (nat_lt x bound && not (seen x)) (are_new (λ y. nat_eq y x || seen y) bound xs) (both_true (nat_lt x bound) (not (seen x)) below (new (seen x) refl))
    (injective_is_new Δ b xs (extend_renaming x τ) (λ y. nat_eq y x || seen y) bound p.1 i (λ v l. let (j, e) = h v l in (suc j, e)) again)
  where
    apart : InImage τ x → ⊥
    apart (j, e) = let q : suc j ≡ zero = outside_injective Δ b xs (extend_renaming x τ) p.1 i (suc j) zero e in cc

    below : nat_lt x bound ≡ true
    below = go (lt_tells x bound)
      where
        go : ((nat_lt x bound ≡ true) × (x < bound)) ⊎ ((nat_lt x bound ≡ false) × (bound ≤ x)) → nat_lt x bound ≡ true
        go (inl (e, l)) = e
        go (inr (e, l)) = absurd (apart (h x l))

    new : (b : Bool) → seen x ≡ b → not b ≡ true
    new true e = absurd (apart (g x e))
    new false e = refl

    again : (v : ℕ) → (nat_eq v x || seen v) ≡ true → InImage (extend_renaming x τ) v
    again v e = go (or_true (nat_eq v x) (seen v) e)
      where
        go : (nat_eq v x ≡ true) ⊎ (seen v ≡ true) → InImage (extend_renaming x τ) v
        go (inl f) = (zero, sym (eqb-true v x f))
        go (inr f) = let (j, e) = g v f in (suc j, e)

each_below : (seen : ℕ → Bool) (bound : ℕ) (t : Skeleton) (xs : List ℕ) (Δ Θ : List Skeleton) → ((x : ℕ) (a : Skeleton) → x < bound → SkeletonAt Δ x a → SkeletonAt Θ x a) → are_new seen bound xs ≡ true → PatternFits Δ t xs → PatternFits Θ t xs
each_below seen bound (base c) [] Δ Θ h e p = tt
each_below seen bound (base c) (x ∷ xs) Δ Θ h e p = absurd p
each_below seen bound (arrow a b) [] Δ Θ h e p = absurd p
each_below seen bound (arrow a b) (x ∷ xs) Δ Θ h e p =
    let (l, n, q) = new_parts seen bound x xs e in
    (h x a l p.0, each_below (λ y. nat_eq y x || seen y) bound b xs Δ Θ h q p.1)

local_below : (D : List LfType) (Γ Γ' : List Skeleton) (x : ℕ) (a : Skeleton) → x < length D → SkeletonAt (local_skeletons D Γ) x a → SkeletonAt (local_skeletons D Γ') x a
local_below [] Γ Γ' x a l h = absurd (omega arith)
local_below (A ∷ D) Γ Γ' zero a l h = h
local_below (A ∷ D) Γ Γ' (suc x) a l h = local_below D Γ Γ' x a (omega arith) h

kept_some : (test : List ℕ → Bool) (o : Option (List ℕ)) (xs : List ℕ) → kept_if test o ≡ Some xs → (o ≡ Some xs) × (test xs ≡ true)
kept_some test None xs e = cc
kept_some test (Some ys) xs e = let (p, q) = if_some (test ys) ys xs e in (ap Some q, subst (λ zs. test zs ≡ true) q p)

-- what is recognized is a pattern
pub pattern_found : (κ : HeadSkeletons) (D : List LfType) (outer : List Skeleton) (S : Spine) (t : Skeleton) (c : ℕ) (xs : List ℕ) → SpineSkeleton κ (local_skeletons D outer) S t (base c) → distinct_variables (length D) S ≡ Some xs → (S ≡ pattern t xs) × IsPattern D t xs
pattern_found κ D outer S t c xs s e =
    let (f, new) = kept_some (are_new (λ y. false) (length D)) (variables_in S) xs e in
    let (q, fits) = variables_found κ S t (local_skeletons D outer) c xs s f in (
      q,
      record {
        places = λ Γ. each_below (λ y. false) (length D) t xs (local_skeletons D outer) (local_skeletons D Γ) (local_below D outer Γ) new fits;
        distinct = new_is_injective (local_skeletons D outer) t xs (beyond D) (λ y. false) (length D) fits outside_is_injective (λ j. inl (let b = beyond_is D j in omega (arith, b))) new;
      },
    )
  where
    outside_is_injective : Injective (beyond D)
    outside_is_injective i j e = let p = beyond_is D i in let q = beyond_is D j in omega (arith, p, q, e)

-- patterns are recognized
pub pattern_recognized : (D : List LfType) (t : Skeleton) (ys : List ℕ) → IsPattern D t ys → distinct_variables (length D) (pattern t ys) ≡ Some ys
pattern_recognized D t ys p =
    ap (kept_if (are_new (λ y. false) (length D))) (variables_recognized (local_skeletons D []) t ys (p.places []))
    ∙ ap (λ b. if b then Some ys else None) (injective_is_new (local_skeletons D []) t ys (beyond D) (λ y. false) (length D) (p.places []) p.distinct image (λ v e. cc))
  where
    image : (v : ℕ) → length D ≤ v → InImage (beyond D) v
    image v l = let b = beyond_is D (v - length D) in (v - length D, omega (arith, b))
