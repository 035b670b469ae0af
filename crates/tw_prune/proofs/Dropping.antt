-- What metavariables on patterns must lose, as the walk finds it.
use Rattle.std.proofs.Common.{◌≡◌, ℕ, zero, suc, ◌+◌, ◌<◌, List, [], ◌∷◌, ◌++◌, length, Option, Some, None, ◌⊎◌, inl, inr, refl, sym, ap, ap₂, ◌∙◌, subst, arith, add-one}
use Rattle.std.specs.Prelude.{is_none, if◌then◌else◌}
use Rattle.lf.specs.SkeletonTyping.{SpineSkeleton, TermSkeleton}
use Rattle.lf.specs.Subordination.{Member}
use Rattle.lf.specs.Syntax.{LfType, Skeleton, Spine, Term, app, arrow, atom, base, constant, lambda, metavariable, nil, pi, root, skeleton, variable}
use Rattle.lf_unification.specs.Inversion.{ElementAt, IsPattern, IsUnderBinders}
use Rattle.lf_unification.specs.OpenTyping.{skeletons_of}
use Rattle.lf_unification.specs.Patterns.{InImage, local_skeletons, pattern}
use Rattle.lf_unification.specs.Rigid.{LiftedSetBy, Rigid, RigidInSpine, first, here, in_constant, in_lambda, in_variable, later}
use Rattle.tw_prune.specs.Standing.{skeletons_over}
use Rattle.tw_prune.specs.Walks.{Table, behind, distinct_variables, last_lacking, loss_at, loss_on, losses_in, losses_in_spine}
use Rattle.tw_prune.proofs.Escaping.{is_missing}
use Rattle.tw_prune.proofs.Options.{some_or_none}
use Rattle.tw_prune.proofs.Recognizing.{pattern_found, pattern_recognized}
use Rattle.tw_prune.proofs.Tables.{IsInverse, behind_allowed, behind_lacking}

-- members of lists
pub member_append : {A : Type 0} (x : A) (xs ys : List A) → Member x (xs ++ ys) → Member x xs ⊎ Member x ys
member_append x [] ys m = inr m
member_append x (y ∷ xs) ys (inl e) = inl (inl e)
member_append x (y ∷ xs) ys (inr m) = go (member_append x xs ys m)
  where
    go : Member x xs ⊎ Member x ys → Member x (y ∷ xs) ⊎ Member x ys
    go (inl h) = inl (inr h)
    go (inr h) = inr h

pub member_left : {A : Type 0} (x : A) (xs ys : List A) → Member x xs → Member x (xs ++ ys)
member_left x [] ys m = absurd m
member_left x (y ∷ xs) ys (inl e) = inl e
member_left x (y ∷ xs) ys (inr m) = inr (member_left x xs ys m)

pub member_right : {A : Type 0} (x : A) (xs ys : List A) → Member x ys → Member x (xs ++ ys)
member_right x [] ys m = m
member_right x (y ∷ xs) ys m = inr (member_right x xs ys m)

-- the last variable that the table lacks
abbrev pub HasAll : Table → ℕ → List ℕ → Type 0
HasAll T k ys = (i y : ℕ) → ElementAt ys i y → (z : ℕ) × (behind T k y ≡ Some z)

pub record LastAt (T : Table) (k p : ℕ) (ys : List ℕ) (q : ℕ) : Type 0 where
  pub index : ℕ
  pub sum : q ≡ p + index
  pub bad : ℕ
  pub nth : ElementAt ys index bad
  pub lacking : behind T k bad ≡ None
  pub last : (i y : ℕ) → index < i → ElementAt ys i y → (z : ℕ) × (behind T k y ≡ Some z)

last_some : (T : Table) (k p : ℕ) (found : Option ℕ) (ys : List ℕ) (q : ℕ) → last_lacking T k p found ys ≡ Some q → LastAt T k p ys q ⊎ ((found ≡ Some q) × HasAll T k ys)
last_some T k p found [] q e = inr (e, λ i y h. absurd h)
last_some T k p found (y ∷ ys) q e = go (last_some T k (p + 1) (if is_none (behind T k y) then Some p else found) ys q e)
  where
    after : (L : LastAt T k (p + 1) ys q) → (i x : ℕ) → suc L.index < i → ElementAt (y ∷ ys) i x → (z : ℕ) × (behind T k x ≡ Some z)
    after L zero x l m = absurd (omega arith)
    after L (suc i) x l m = L.last i x (omega arith) m

    at_first : behind T k y ≡ None → Some p ≡ Some q → HasAll T k ys → LastAt T k p (y ∷ ys) q
    at_first f g all = record { index = 0; sum = (let r : p ≡ q = cc in omega (arith, r)); bad = y; nth = refl; lacking = f; last = rest }
      where
        rest : (i x : ℕ) → 0 < i → ElementAt (y ∷ ys) i x → (z : ℕ) × (behind T k x ≡ Some z)
        rest zero x l m = absurd (omega arith)
        rest (suc i) x l m = all i x m

    here_has : (z : ℕ) → behind T k y ≡ Some z → HasAll T k ys → HasAll T k (y ∷ ys)
    here_has z f all zero x m = subst (λ w. (z : ℕ) × (behind T k w ≡ Some z)) m (z, f)
    here_has z f all (suc i) x m = all i x m

    by : (o : Option ℕ) → behind T k y ≡ o → (if is_none (behind T k y) then Some p else found) ≡ Some q → HasAll T k ys → LastAt T k p (y ∷ ys) q ⊎ ((found ≡ Some q) × HasAll T k (y ∷ ys))
    by None f g all = inl (at_first f (sym (ap (λ o. if is_none o then Some p else found) f) ∙ g) all)
    by (Some z) f g all = inr (sym (ap (λ o. if is_none o then Some p else found) f) ∙ g, here_has z f all)

    go : LastAt T k (p + 1) ys q ⊎ (((if is_none (behind T k y) then Some p else found) ≡ Some q) × HasAll T k ys) → LastAt T k p (y ∷ ys) q ⊎ ((found ≡ Some q) × HasAll T k (y ∷ ys))
    go (inl L) = inl (record { index = suc L.index; sum = (let s = L.sum in omega (arith, s)); bad = L.bad; nth = L.nth; lacking = L.lacking; last = after L })
    go (inr (g, all)) = by (behind T k y) refl g all

all_keep : (T : Table) (k p : ℕ) (found : Option ℕ) (ys : List ℕ) → HasAll T k ys → last_lacking T k p found ys ≡ found
all_keep T k p found [] all = refl
all_keep T k p found (y ∷ ys) all =
    let (z, e) = all 0 y refl in
    ap (λ o. last_lacking T k (p + 1) (if is_none o then Some p else found) ys) e ∙ all_keep T k (p + 1) found ys (λ i x m. all (suc i) x m)

last_found : (T : Table) (k p : ℕ) (found : Option ℕ) (ys : List ℕ) (j bad : ℕ) → ElementAt ys j bad → behind T k bad ≡ None → ((i y : ℕ) → j < i → ElementAt ys i y → (z : ℕ) × (behind T k y ≡ Some z)) → last_lacking T k p found ys ≡ Some (p + j)
last_found T k p found [] j bad m e h = absurd m
last_found T k p found (y ∷ ys) zero bad m e h =
    let f : behind T k y ≡ None = subst (λ x. behind T k x ≡ None) (sym m) e in
    let q : p ≡ p + 0 = omega arith in
    ap (λ o. last_lacking T k (p + 1) (if is_none o then Some p else found) ys) f ∙ all_keep T k (p + 1) (Some p) ys (λ i x n. h (suc i) x (omega arith) n) ∙ ap Some q
last_found T k p found (y ∷ ys) (suc j) bad m e h =
    let q : (p + 1) + j ≡ p + suc j = omega arith in
    last_found T k (p + 1) (if is_none (behind T k y) then Some p else found) ys j bad m e (λ i x l n. h (suc i) x (omega arith) n) ∙ ap Some q

-- a type of each skeleton
abbrev pub plain_type : Skeleton → LfType
plain_type (base c) = atom c nil
plain_type (arrow a b) = pi (plain_type a) (plain_type b)

pub plain_skeleton : (a : Skeleton) → skeleton (plain_type a) ≡ a
plain_skeleton (base c) = refl
plain_skeleton (arrow a b) = ap₂ arrow (plain_skeleton a) (plain_skeleton b)

pub under_length : (D : List LfType) (k : ℕ) (E : List LfType) → IsUnderBinders D k E → length E ≡ k + length D
under_length D zero E u = let e : length E ≡ length D = ap length u in omega (arith, e)
under_length D (suc k) [] u = absurd u
under_length D (suc k) (A ∷ E) u = let e = under_length D k E u in omega (arith, e)

module _ (Ψ : ℕ → Option LfType) (D : List LfType) (T : Table) (ρ : ℕ → ℕ) (inverse : IsInverse T ρ) (size : length T.places ≡ length D) where
  -- metavariable m on a pattern, under `total` binders in all, of which k were passed before
  pub record LosesAt (k : ℕ) (N : Term) (m place : ℕ) : Type 0 where
    pub depth : ℕ
    pub total : ℕ
    pub sum : total ≡ k + depth
    pub context : List LfType
    pub context_is : IsUnderBinders D total context
    pub ys : List ℕ
    pub is_pattern : IsPattern context (skeletons_of Ψ m) ys
    pub at : Rigid (root (metavariable m) (pattern (skeletons_of Ψ m) ys)) depth N
    pub bad : ℕ
    pub nth : ElementAt ys place bad
    pub is_bad : LiftedSetBy total (InImage ρ) bad → ⊥
    pub last : (j y : ℕ) → place < j → ElementAt ys j y → LiftedSetBy total (InImage ρ) y

  pub record LosesInSpineAt (k : ℕ) (S : Spine) (m place : ℕ) : Type 0 where
    pub depth : ℕ
    pub total : ℕ
    pub sum : total ≡ k + depth
    pub context : List LfType
    pub context_is : IsUnderBinders D total context
    pub ys : List ℕ
    pub is_pattern : IsPattern context (skeletons_of Ψ m) ys
    pub at : RigidInSpine (root (metavariable m) (pattern (skeletons_of Ψ m) ys)) depth S
    pub bad : ℕ
    pub nth : ElementAt ys place bad
    pub is_bad : LiftedSetBy total (InImage ρ) bad → ⊥
    pub last : (j y : ℕ) → place < j → ElementAt ys j y → LiftedSetBy total (InImage ρ) y

  within : (k : ℕ) (N M : Term) (S : Spine) (m place : ℕ) → ((depth : ℕ) (O : Term) → RigidInSpine O depth S → Rigid O depth N) → LosesInSpineAt k S m place → LosesAt k N m place
  within k N M S m place f r = record { depth = r.depth; total = r.total; sum = r.sum; context = r.context; context_is = r.context_is; ys = r.ys; is_pattern = r.is_pattern; at = f r.depth (root (metavariable m) (pattern (skeletons_of Ψ m) r.ys)) r.at; bad = r.bad; nth = r.nth; is_bad = r.is_bad; last = r.last }

  in_first : (k : ℕ) (M : Term) (S : Spine) (m place : ℕ) → LosesAt k M m place → LosesInSpineAt k (app M S) m place
  in_first k M S m place r = record { depth = r.depth; total = r.total; sum = r.sum; context = r.context; context_is = r.context_is; ys = r.ys; is_pattern = r.is_pattern; at = first r.at; bad = r.bad; nth = r.nth; is_bad = r.is_bad; last = r.last }

  in_later : (k : ℕ) (M : Term) (S : Spine) (m place : ℕ) → LosesInSpineAt k S m place → LosesInSpineAt k (app M S) m place
  in_later k M S m place r = record { depth = r.depth; total = r.total; sum = r.sum; context = r.context; context_is = r.context_is; ys = r.ys; is_pattern = r.is_pattern; at = later r.at; bad = r.bad; nth = r.nth; is_bad = r.is_bad; last = r.last }

  in_body : (k : ℕ) (M : Term) (m place : ℕ) → LosesAt (suc k) M m place → LosesAt k (lambda M) m place
  in_body k M m place r = record { depth = suc r.depth; total = r.total; sum = (let s = r.sum in omega (arith, s)); context = r.context; context_is = r.context_is; ys = r.ys; is_pattern = r.is_pattern; at = in_lambda r.at; bad = r.bad; nth = r.nth; is_bad = r.is_bad; last = r.last }

  module _ (constants : ℕ → Option Skeleton) (outer : List Skeleton) where
    on_pattern : (k : ℕ) (E : List LfType) (n : ℕ) (S : Spine) (t : Skeleton) (c m place : ℕ) → IsUnderBinders D k E → Some (skeletons_of Ψ n) ≡ Some t → SpineSkeleton (skeletons_over constants Ψ) (local_skeletons E outer) S t (base c) →
        Member (m, place) (loss_on T k n (distinct_variables (k + length T.places) S)) → LosesAt k (root (metavariable n) S) m place
    on_pattern k E n S t c m place u e s h = go (distinct_variables (k + length T.places) S) refl h
      where
        bound : k + length T.places ≡ length E
        bound = let l = under_length D k E u in omega (arith, l, size)

        at : (ys : List ℕ) → distinct_variables (k + length T.places) S ≡ Some ys → (q : ℕ) → last_lacking T k 0 None ys ≡ Some q → n ≡ m → q ≡ place → LosesAt k (root (metavariable n) S) m place
        at ys f q g v w = by (last_some T k 0 None ys q g)
          where
            by : LastAt T k 0 ys q ⊎ ((None ≡ Some q) × HasAll T k ys) → LosesAt k (root (metavariable n) S) m place
            by (inr (x, all)) = cc
            by (inl L) =
                let z : L.index ≡ place = (let x = L.sum in omega (arith, x, w)) in
                let a : t ≡ skeletons_of Ψ n = cc in
                let (p, is) = pattern_found (skeletons_over constants Ψ) E outer S (skeletons_of Ψ n) c ys (subst (λ b. SpineSkeleton (skeletons_over constants Ψ) (local_skeletons E outer) S b (base c)) a s) (subst (λ x. distinct_variables x S ≡ Some ys) bound f) in
                let r : LosesAt k (root (metavariable n) S) n L.index = record {
                  depth = 0;
                  total = k;
                  sum = omega arith;
                  context = E;
                  context_is = u;
                  ys = ys;
                  is_pattern = is;
                  at = subst (λ X. Rigid (root (metavariable n) (pattern (skeletons_of Ψ n) ys)) 0 (root (metavariable n) X)) (sym p) here;
                  bad = L.bad;
                  nth = L.nth;
                  is_bad = behind_lacking T ρ inverse k L.bad L.lacking;
                  last = λ j y l x. let (i, o) = L.last j y l x in behind_allowed T ρ inverse k y i o;
                } in
                subst (λ x. LosesAt k (root (metavariable n) S) m x) z (subst (λ x. LosesAt k (root (metavariable n) S) x L.index) v r)

        lost : (ys : List ℕ) → distinct_variables (k + length T.places) S ≡ Some ys → (o : Option ℕ) → last_lacking T k 0 None ys ≡ o → Member (m, place) (loss_at n o) → LosesAt k (root (metavariable n) S) m place
        lost ys f None g x = absurd x
        lost ys f (Some q) g (inl x) = at ys f q g (ap (λ z. z.0) (sym x)) (ap (λ z. z.1) (sym x))
        lost ys f (Some q) g (inr x) = absurd x

        go : (o : Option (List ℕ)) → distinct_variables (k + length T.places) S ≡ o → Member (m, place) (loss_on T k n o) → LosesAt k (root (metavariable n) S) m place
        go None f x = absurd x
        go (Some ys) f x = lost ys f (last_lacking T k 0 None ys) refl x

    mutual
      pub losses_sound : (N : Term) (k : ℕ) (E : List LfType) (s : Skeleton) (m place : ℕ) → IsUnderBinders D k E → TermSkeleton (skeletons_over constants Ψ) (local_skeletons E outer) N s → Member (m, place) (losses_in T k N) → LosesAt k N m place
      losses_sound (lambda N) k E (base c) m place u s h = absurd s
      losses_sound (lambda N) k E (arrow a b) m place u s h =
          let s' : TermSkeleton (skeletons_over constants Ψ) (skeleton (plain_type a) ∷ local_skeletons E outer) N b = subst (λ x. TermSkeleton (skeletons_over constants Ψ) (x ∷ local_skeletons E outer) N b) (sym (plain_skeleton a)) s in
          in_body k N m place (losses_sound N (suc k) (plain_type a ∷ E) b m place u s' (subst (λ n. Member (m, place) (losses_in T n N)) (add-one k) h))
      losses_sound (root h S) k E (arrow a b) m place u s x = absurd s
      losses_sound (root (constant c) S) k E (base d) m place u (t, at, s) h = within k (root (constant c) S) (root (constant c) S) S m place (λ depth O r. in_constant r) (losses_in_spine_sound S k E t d m place u s h)
      losses_sound (root (variable v) S) k E (base d) m place u (t, at, s) h = within k (root (variable v) S) (root (variable v) S) S m place (λ depth O r. in_variable r) (losses_in_spine_sound S k E t d m place u s h)
      losses_sound (root (metavariable n) S) k E (base d) m place u (t, at, s) h = on_pattern k E n S t d m place u at s h

      pub losses_in_spine_sound : (S : Spine) (k : ℕ) (E : List LfType) (t : Skeleton) (c m place : ℕ) → IsUnderBinders D k E → SpineSkeleton (skeletons_over constants Ψ) (local_skeletons E outer) S t (base c) → Member (m, place) (losses_in_spine T k S) → LosesInSpineAt k S m place
      losses_in_spine_sound nil k E t c m place u s h = absurd h
      losses_in_spine_sound (app M S) k E (base d) c m place u s h = absurd s
      losses_in_spine_sound (app M S) k E (arrow a b) c m place u (x, s) h = go (member_append (m, place) (losses_in T k M) (losses_in_spine T k S) h) (losses_sound M k E a m place u x) (losses_in_spine_sound S k E b c m place u s)
        where
          go : Member (m, place) (losses_in T k M) ⊎ Member (m, place) (losses_in_spine T k S) → (Member (m, place) (losses_in T k M) → LosesAt k M m place) → (Member (m, place) (losses_in_spine T k S) → LosesInSpineAt k S m place) → LosesInSpineAt k (app M S) m place
          go (inl y) one rest = in_first k M S m place (one y)
          go (inr y) one rest = in_later k M S m place (rest y)

  -- each is found
  module _ (m place : ℕ) (ys : List ℕ) (total : ℕ) (E : List LfType) (u : IsUnderBinders D total E) (is : IsPattern E (skeletons_of Ψ m) ys) (bad : ℕ) (nth : ElementAt ys place bad) (is_bad : LiftedSetBy total (InImage ρ) bad → ⊥) (last : (j y : ℕ) → place < j → ElementAt ys j y → LiftedSetBy total (InImage ρ) y) where
    found_here : Member (m, place) (losses_in T total (root (metavariable m) (pattern (skeletons_of Ψ m) ys)))
    found_here =
        let bound : length E ≡ total + length T.places = (let l = under_length D total E u in omega (arith, l, size)) in
        let f : distinct_variables (total + length T.places) (pattern (skeletons_of Ψ m) ys) ≡ Some ys = subst (λ x. distinct_variables x (pattern (skeletons_of Ψ m) ys) ≡ Some ys) bound (pattern_recognized E (skeletons_of Ψ m) ys is) in
        let g : last_lacking T total 0 None ys ≡ Some (0 + place) = last_found T total 0 None ys place bad nth (is_missing T ρ inverse total bad is_bad) has in
        let q : 0 + place ≡ place = omega arith in
        subst (λ o. Member (m, place) (loss_on T total m o)) (sym f) (subst (λ o. Member (m, place) (loss_at m o)) (sym (g ∙ ap Some q)) (inl refl))
      where
        has : (i y : ℕ) → place < i → ElementAt ys i y → (z : ℕ) × (behind T total y ≡ Some z)
        has i y l n = go (some_or_none (behind T total y))
          where
            go : ((z : ℕ) × (behind T total y ≡ Some z)) ⊎ (behind T total y ≡ None) → (z : ℕ) × (behind T total y ≡ Some z)
            go (inl z) = z
            go (inr f) = absurd (behind_lacking T ρ inverse total y f (last i y l n))

    mutual
      pub losses_found : {O : Term} {d : ℕ} {N : Term} (k : ℕ) → O ≡ root (metavariable m) (pattern (skeletons_of Ψ m) ys) → Rigid O d N → total ≡ k + d → Member (m, place) (losses_in T k N)
      losses_found k w here e =
          let q : total ≡ k = omega (arith, e) in
          subst (λ X. Member (m, place) (losses_in T k X)) (sym w) (subst (λ x. Member (m, place) (losses_in T x (root (metavariable m) (pattern (skeletons_of Ψ m) ys)))) q found_here)
      losses_found k w (in_lambda {k = d} {M = M} o) e =
          let q : total ≡ suc k + d = omega (arith, e) in
          subst (λ x. Member (m, place) (losses_in T x M)) (sym (add-one k)) (losses_found (suc k) w o q)
      losses_found k w (in_constant o) e = losses_found_in_spine k w o e
      losses_found k w (in_variable o) e = losses_found_in_spine k w o e

      pub losses_found_in_spine : {O : Term} {d : ℕ} {S : Spine} (k : ℕ) → O ≡ root (metavariable m) (pattern (skeletons_of Ψ m) ys) → RigidInSpine O d S → total ≡ k + d → Member (m, place) (losses_in_spine T k S)
      losses_found_in_spine k w (first {M = M} {S = S} o) e = member_left (m, place) (losses_in T k M) (losses_in_spine T k S) (losses_found k w o e)
      losses_found_in_spine k w (later {M = M} {S = S} o) e = member_right (m, place) (losses_in T k M) (losses_in_spine T k S) (losses_found_in_spine k w o e)
