-- A metavariable on a pattern, in no argument of a metavariable, as the walk finds it.
use Rattle.std.proofs.Common.{◌≡◌, ℕ, suc, ◌+◌, List, ◌∷◌, length, Option, Some, None, ◌⊎◌, inl, inr, refl, sym, ap, ◌∙◌, subst, arith}
use Rattle.std.specs.Prelude.{Bool, true, false, is_some, ◌&&◌, ◌||◌, nat_eq}
use Rattle.std.specs.Bool.{OnFalse, OnTrue}
use Rattle.std.proofs.lemmas.Bool.{eqb-true, eq-eqb}
use Rattle.lf.specs.SkeletonTyping.{SpineSkeleton, TermSkeleton}
use Rattle.lf.specs.Syntax.{LfType, Skeleton, Spine, Term, app, arrow, base, constant, lambda, metavariable, nil, root, skeleton, variable}
use Rattle.lf_unification.specs.Inversion.{IsPattern, IsUnderBinders}
use Rattle.lf_unification.specs.OpenTyping.{skeletons_of}
use Rattle.lf_unification.specs.Patterns.{local_skeletons, pattern}
use Rattle.lf_unification.specs.Rigid.{Rigid, RigidInSpine, first, here, in_constant, in_lambda, in_variable, later}
use Rattle.tw_prune.specs.Occurrence.{NeverOccursInside, OccursInside}
use Rattle.tw_prune.specs.Standing.{skeletons_over}
use Rattle.tw_prune.specs.Walks.{distinct_variables, stands_in, stands_in_spine, stands_inside}
use Rattle.tw_prune.proofs.Dropping.{plain_skeleton, plain_type, under_length}
use Rattle.tw_prune.proofs.Escaping.{or_right, or_true}
use Rattle.tw_prune.proofs.Options.{some_or_none}
use Rattle.tw_prune.proofs.Recognizing.{and_true, both_true, pattern_found, pattern_recognized}

module _ (Ψ : ℕ → Option LfType) (D : List LfType) (m : ℕ) where
  -- under `total` binders in all, of which k were passed before
  pub record StandsAt (k : ℕ) (N : Term) : Type 0 where
    pub depth : ℕ
    pub total : ℕ
    pub sum : total ≡ k + depth
    pub context : List LfType
    pub context_is : IsUnderBinders D total context
    pub ys : List ℕ
    pub is_pattern : IsPattern context (skeletons_of Ψ m) ys
    pub at : Rigid (root (metavariable m) (pattern (skeletons_of Ψ m) ys)) depth N

  pub record StandsInSpineAt (k : ℕ) (S : Spine) : Type 0 where
    pub depth : ℕ
    pub total : ℕ
    pub sum : total ≡ k + depth
    pub context : List LfType
    pub context_is : IsUnderBinders D total context
    pub ys : List ℕ
    pub is_pattern : IsPattern context (skeletons_of Ψ m) ys
    pub at : RigidInSpine (root (metavariable m) (pattern (skeletons_of Ψ m) ys)) depth S

  within : (k : ℕ) (N : Term) (S : Spine) → ((depth : ℕ) (O : Term) → RigidInSpine O depth S → Rigid O depth N) → StandsInSpineAt k S → StandsAt k N
  within k N S f r = record { depth = r.depth; total = r.total; sum = r.sum; context = r.context; context_is = r.context_is; ys = r.ys; is_pattern = r.is_pattern; at = f r.depth (root (metavariable m) (pattern (skeletons_of Ψ m) r.ys)) r.at }

  in_first : (k : ℕ) (M : Term) (S : Spine) → StandsAt k M → StandsInSpineAt k (app M S)
  in_first k M S r = record { depth = r.depth; total = r.total; sum = r.sum; context = r.context; context_is = r.context_is; ys = r.ys; is_pattern = r.is_pattern; at = first r.at }

  in_later : (k : ℕ) (M : Term) (S : Spine) → StandsInSpineAt k S → StandsInSpineAt k (app M S)
  in_later k M S r = record { depth = r.depth; total = r.total; sum = r.sum; context = r.context; context_is = r.context_is; ys = r.ys; is_pattern = r.is_pattern; at = later r.at }

  in_body : (k : ℕ) (M : Term) → StandsAt (suc k) M → StandsAt k (lambda M)
  in_body k M r = record { depth = suc r.depth; total = r.total; sum = (let s = r.sum in omega (arith, s)); context = r.context; context_is = r.context_is; ys = r.ys; is_pattern = r.is_pattern; at = in_lambda r.at }

  module _ (constants : ℕ → Option Skeleton) (outer : List Skeleton) where
    on_pattern : (k : ℕ) (E : List LfType) (bound n : ℕ) (S : Spine) (t : Skeleton) (c : ℕ) → bound ≡ length E → IsUnderBinders D k E → Some (skeletons_of Ψ n) ≡ Some t → SpineSkeleton (skeletons_over constants Ψ) (local_skeletons E outer) S t (base c) →
        (nat_eq n m && is_some (distinct_variables bound S)) ≡ true → StandsAt k (root (metavariable n) S)
    on_pattern k E bound n S t c l u e s h =
        let (x, y) = and_true (nat_eq n m) (is_some (distinct_variables bound S)) h in
        go (some_or_none (distinct_variables bound S)) y (eqb-true n m x)
      where
        at : (ys : List ℕ) → distinct_variables bound S ≡ Some ys → n ≡ m → StandsAt k (root (metavariable n) S)
        at ys f v =
            let a : t ≡ skeletons_of Ψ m = (let b : skeletons_of Ψ n ≡ t = cc in sym b ∙ ap (skeletons_of Ψ) v) in
            let (p, is) = pattern_found (skeletons_over constants Ψ) E outer S (skeletons_of Ψ m) c ys (subst (λ b. SpineSkeleton (skeletons_over constants Ψ) (local_skeletons E outer) S b (base c)) a s) (subst (λ x. distinct_variables x S ≡ Some ys) l f) in
            let o : Rigid (root (metavariable m) (pattern (skeletons_of Ψ m) ys)) 0 (root (metavariable m) S) = subst (λ X. Rigid (root (metavariable m) (pattern (skeletons_of Ψ m) ys)) 0 (root (metavariable m) X)) (sym p) here in
            let o' : Rigid (root (metavariable m) (pattern (skeletons_of Ψ m) ys)) 0 (root (metavariable n) S) = subst (λ x. Rigid (root (metavariable m) (pattern (skeletons_of Ψ m) ys)) 0 (root (metavariable x) S)) (sym v) o in
            record { depth = 0; total = k; sum = omega arith; context = E; context_is = u; ys = ys; is_pattern = is; at = o' }

        go : ((ys : List ℕ) × (distinct_variables bound S ≡ Some ys)) ⊎ (distinct_variables bound S ≡ None) → is_some (distinct_variables bound S) ≡ true → n ≡ m → StandsAt k (root (metavariable n) S)
        go (inl (ys, f)) y v = at ys f v
        go (inr f) y v = let z : false ≡ true = sym (ap is_some f) ∙ y in cc

    mutual
      pub stands_sound : (N : Term) (k : ℕ) (E : List LfType) (bound : ℕ) (s : Skeleton) → bound ≡ length E → IsUnderBinders D k E → TermSkeleton (skeletons_over constants Ψ) (local_skeletons E outer) N s → stands_in m bound N ≡ true → StandsAt k N
      stands_sound (lambda N) k E bound (base c) l u s h = absurd s
      stands_sound (lambda N) k E bound (arrow a b) l u s h =
          let s' : TermSkeleton (skeletons_over constants Ψ) (skeleton (plain_type a) ∷ local_skeletons E outer) N b = subst (λ x. TermSkeleton (skeletons_over constants Ψ) (x ∷ local_skeletons E outer) N b) (sym (plain_skeleton a)) s in
          in_body k N (stands_sound N (suc k) (plain_type a ∷ E) (bound + 1) b (omega (arith, l)) u s' h)
      stands_sound (root h S) k E bound (arrow a b) l u s x = absurd s
      stands_sound (root (constant c) S) k E bound (base d) l u (t, at, s) h = within k (root (constant c) S) S (λ depth O r. in_constant r) (stands_in_spine_sound S k E bound t d l u s h)
      stands_sound (root (variable v) S) k E bound (base d) l u (t, at, s) h = within k (root (variable v) S) S (λ depth O r. in_variable r) (stands_in_spine_sound S k E bound t d l u s h)
      stands_sound (root (metavariable n) S) k E bound (base d) l u (t, at, s) h = on_pattern k E bound n S t d l u at s h

      pub stands_in_spine_sound : (S : Spine) (k : ℕ) (E : List LfType) (bound : ℕ) (t : Skeleton) (c : ℕ) → bound ≡ length E → IsUnderBinders D k E → SpineSkeleton (skeletons_over constants Ψ) (local_skeletons E outer) S t (base c) → stands_in_spine m bound S ≡ true → StandsInSpineAt k S
      stands_in_spine_sound nil k E bound t c l u s h = cc
      stands_in_spine_sound (app M S) k E bound (base d) c l u s h = absurd s
      stands_in_spine_sound (app M S) k E bound (arrow a b) c l u (x, s) h = go (or_true (stands_in m bound M) (stands_in_spine m bound S) h) (stands_sound M k E bound a l u x) (stands_in_spine_sound S k E bound b c l u s)
        where
          go : (stands_in m bound M ≡ true) ⊎ (stands_in_spine m bound S ≡ true) → (stands_in m bound M ≡ true → StandsAt k M) → (stands_in_spine m bound S ≡ true → StandsInSpineAt k S) → StandsInSpineAt k (app M S)
          go (inl y) one rest = in_first k M S (one y)
          go (inr y) one rest = in_later k M S (rest y)

  -- each is found
  module _ (ys : List ℕ) (E : List LfType) (is : IsPattern E (skeletons_of Ψ m) ys) where
    mutual
      pub stands_found : {O : Term} {d : ℕ} {N : Term} (bound : ℕ) → O ≡ root (metavariable m) (pattern (skeletons_of Ψ m) ys) → Rigid O d N → length E ≡ bound + d → stands_in m bound N ≡ true
      stands_found bound w here e =
          let q : length E ≡ bound = omega (arith, e) in
          let f : distinct_variables bound (pattern (skeletons_of Ψ m) ys) ≡ Some ys = subst (λ x. distinct_variables x (pattern (skeletons_of Ψ m) ys) ≡ Some ys) q (pattern_recognized E (skeletons_of Ψ m) ys is) in
          subst (λ X. stands_in m bound X ≡ true) (sym w) (both_true (nat_eq m m) (is_some (distinct_variables bound (pattern (skeletons_of Ψ m) ys))) (eq-eqb m m refl) (ap is_some f))
      stands_found bound w (in_lambda {k = d} {M = M} o) e = stands_found (bound + 1) w o (omega (arith, e))
      stands_found bound w (in_constant o) e = stands_found_in_spine bound w o e
      stands_found bound w (in_variable o) e = stands_found_in_spine bound w o e

      pub stands_found_in_spine : {O : Term} {d : ℕ} {S : Spine} (bound : ℕ) → O ≡ root (metavariable m) (pattern (skeletons_of Ψ m) ys) → RigidInSpine O d S → length E ≡ bound + d → stands_in_spine m bound S ≡ true
      stands_found_in_spine bound w (first {M = M} {S = S} o) e = ap (λ b. b || stands_in_spine m bound S) (stands_found bound w o e)
      stands_found_in_spine bound w (later {M = M} {S = S} o) e = or_right (stands_in m bound M) (stands_in_spine m bound S) (stands_found_in_spine bound w o e)

-- properly inside
inside_is_in : (m bound : ℕ) (N : Term) → stands_inside m bound N ≡ true → stands_in m bound N ≡ true
inside_is_in m bound (lambda N) e = e
inside_is_in m bound (root (constant c) S) e = e
inside_is_in m bound (root (variable c) S) e = e
inside_is_in m bound (root (metavariable c) S) e = cc

not_flexible : (m bound : ℕ) (N : Term) (n : ℕ) (S : Spine) → stands_inside m bound N ≡ true → N ≡ root (metavariable n) S → ⊥
not_flexible m bound (lambda N) n S e f = cc
not_flexible m bound (root (constant c) T) n S e f = cc
not_flexible m bound (root (variable c) T) n S e f = cc
not_flexible m bound (root (metavariable c) T) n S e f = cc

in_flexible : {O : Term} {d : ℕ} {N : Term} (n : ℕ) (S : Spine) → Rigid O d N → N ≡ root (metavariable n) S → N ≡ O
in_flexible n S here e = refl
in_flexible n S (in_lambda o) e = cc
in_flexible n S (in_constant o) e = cc
in_flexible n S (in_variable o) e = cc

pub occurs_means : (m inner : ℕ) (N : Term) → stands_inside m inner N ≡ true → OccursInside m inner N
occurs_means m inner N e Ψ D xs l h =
    let r = stands_sound Ψ D m h.constants h.outer N 0 D inner h.of_skeleton (sym l) refl h.typed (inside_is_in m inner N e) in
    let q : r.total ≡ r.depth = (let s = r.sum in omega (arith, s)) in
    record {
      depth = r.depth;
      context = r.context;
      context_is = subst (λ k. IsUnderBinders D k r.context) q r.context_is;
      ys = r.ys;
      is_pattern = r.is_pattern;
      at = r.at;
      inside = not_flexible m inner N m (pattern (skeletons_of Ψ m) r.ys) e;
    }

pub none_means : (m inner : ℕ) (N : Term) → stands_inside m inner N ≡ false → NeverOccursInside m inner N
none_means m inner N e Ψ D xs l o = go N refl
  where
    found : stands_in m inner N ≡ true
    found =
        let b = under_length D o.depth o.context o.context_is in
        stands_found Ψ D m o.ys o.context o.is_pattern inner refl o.at (omega (arith, b, l))

    same : (X : Term) → N ≡ X → stands_inside m inner X ≡ stands_in m inner X → ⊥
    same X q f = let z : false ≡ true = sym e ∙ ap (stands_inside m inner) q ∙ f ∙ ap (stands_in m inner) (sym q) ∙ found in cc

    go : (X : Term) → N ≡ X → ⊥
    go (lambda M) q = same (lambda M) q refl
    go (root (constant c) S) q = same (root (constant c) S) q refl
    go (root (variable c) S) q = same (root (variable c) S) q refl
    go (root (metavariable n) S) q = o.inside (in_flexible n S o.at q)

pub occurs_in_result : (m inner : ℕ) (N : Term) (b : Bool) → b ≡ stands_inside m inner N → OnTrue b (OccursInside m inner N)
occurs_in_result m inner N true e = occurs_means m inner N (sym e)
occurs_in_result m inner N false e = tt

pub none_in_result : (m inner : ℕ) (N : Term) (b : Bool) → b ≡ stands_inside m inner N → OnFalse b (NeverOccursInside m inner N)
none_in_result m inner N true e = tt
none_in_result m inner N false e = none_means m inner N (sym e)
