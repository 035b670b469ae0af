-- A strict occurrence gives a variable its value: what is found in an instance is what was put in.
use Rattle.std.proofs.Common.{◌≡◌, ℕ, zero, suc, ◌+◌, List, [], ◌∷◌, refl, sym, ap, ap₂, ◌∙◌, subst, arith}
use Rattle.std.specs.Prelude.{Bool, true, false, Option, Some, None, not, cond}
use Rattle.lf.specs.AtOnce.{shift_by}
use Rattle.lf.specs.Eta.{eta_long}
use Rattle.lf.specs.Syntax.{constant, variable, metavariable, Term, Spine, lambda, root, nil, app, LfType, Kind, pi, atom, kind_pi, star, Skeleton, base, arrow, skeleton, rename, rename_spine, lift_renaming}
use Rattle.lf.specs.Substitution.{Image, keep, put, rename_image, lift, single, apply_image, substitute, substitute_spine, substitute_type, reduce}
use Rattle.lf.specs.SkeletonTyping.{SkeletonAt, TermSkeleton, ImageSkeleton, SubstitutionBySkeletons}
use Rattle.lf.specs.Skeletons.{constant_skeletons, context_skeletons}
use Rattle.lf.specs.Typing.{Signature, instantiate_type, instantiate_kind, HasType, SpineType, SpineFitsKind, IsType, IsKind, IsContext, IsSignature}
use Rattle.lf.specs.Variables.{everything, under, hide, nothing, Uses, UsesSpine, same_number, at_variable}
use Rattle.lf.proofs.Renaming.{reduction_beta, renamings_compose}
use Rattle.lf.proofs.TypeLaws.{skeleton_substituted}
use Rattle.lf.proofs.ToSkeletons.{variable_has_skeleton, type_by_skeletons}
use Rattle.lf.proofs.Weakening.{declared_is_type}
use Rattle.lf.proofs.Substitution.{instance_is_type, constant_type, family_kind, single_substitution_typed, skeleton_context_of}
use Rattle.lf.proofs.Regular.{substitution_keeps_kinds}
use Rattle.lf.proofs.SkeletonTyping.{renaming_keeps_skeletons, lift_by_skeletons}
use Rattle.lf.proofs.Eta.{EtaLike, Fits, eta_renames, reduce_nil, substitute_eta_expand}
use Rattle.lf.proofs.EtaTypes.{SameForm, eta_form, eta_spine, eta_at_type}
use Rattle.lf_checks.proofs.EtaTest.{is_eta, both_l, both_r}
use Rattle.lf_checks.specs.Strict.{eta_at, head_variable, is_bound, pattern_arguments, with_seen, strict, strict_spine, strict_type}
use Rattle.lf_checks.specs.Tests.{both, either, is_in}
use Rattle.tw_clause.specs.Patterns.{heads, newest}
use Rattle.tw_world.specs.Finding.{abstracted, arguments_of, first_of, inverted, nearer, standing, to_front, value_in, value_in_spine, value_in_type}
use Rattle.lf.proofs.Checker.{number_is}
use Rattle.tw_signature.proofs.Marking.{same_not, same_self}
use Rattle.tw_clause.proofs.Patterns.{newest_out}
use Rattle.lf.proofs.AtOnce.{shift_zero}
use Rattle.lf.proofs.Uses.{uses_renamed}
use Rattle.lf.proofs.Partial.{uses_all}
use mathlib.Core.Path.{fun_ext}

-- the value, where it is found
abbrev pub found : Bool → Term → Option Term
found b N = cond b (Some N) None

pub found_either : (a b : Bool) (N : Term) → first_of (found a N) (found b N) ≡ found (either a b) N
found_either true b N = refl
found_either false b N = refl

found_both : (a b : Bool) (N : Term) (v : Option Term) → (a ≡ true → v ≡ found b N) → cond a v None ≡ found (both a b) N
found_both true b N v h = h refl
found_both false b N v h = refl

-- A term applied to variables: each of them stands for one lambda.
abbrev applied : List ℕ → Term → Term
applied [] N = N
applied (y ∷ ys) (lambda N) = applied ys (rename (at_variable y) N)
applied (y ∷ ys) (root h S) = root h S

-- it has a lambda for each
abbrev Takes : List ℕ → Term → Type 0
Takes [] N = Unit {0}
Takes (y ∷ ys) (lambda N) = Takes ys N
Takes (y ∷ ys) (root h S) = ⊥

-- each is another one, and none of V
abbrev Fresh : (ℕ → Bool) → List ℕ → Type 0
Fresh V [] = Unit {0}
Fresh V (y ∷ ys) = (V y ≡ false) × Fresh V ys × (is_in y ys ≡ false)

takes_back : (ρ : ℕ → ℕ) (ys : List ℕ) (N : Term) → Takes ys (rename ρ N) → Takes ys N
takes_back ρ [] N t = tt
takes_back ρ (y ∷ ys) (lambda N) t = takes_back (lift_renaming ρ) ys N t
takes_back ρ (y ∷ ys) (root h S) t = absurd t

-- Read off again.
front_under : (V : ℕ → Bool) (y : ℕ) → V y ≡ false → (i : ℕ) → under V i ≡ true → to_front y (at_variable y i) ≡ i
front_under V y v zero u = ap (λ b. cond b zero (suc y)) (same_self y)
front_under V y v (suc i) u = ap (λ b. cond b zero (suc i)) (same_not i y (λ e. clash (sym v ∙ ap V (sym e) ∙ u)))
  where
    clash : false ≡ true → ⊥
    clash q = cc

back_under : (U : ℕ → Bool) (ρ τ : ℕ → ℕ) → ((i : ℕ) → U i ≡ true → τ (ρ i) ≡ i) → (i : ℕ) → under U i ≡ true → lift_renaming τ (lift_renaming ρ i) ≡ i
back_under U ρ τ h zero u = refl
back_under U ρ τ h (suc i) u = ap suc (h i u)

mutual
  renamed_back : (U : ℕ → Bool) (ρ τ : ℕ → ℕ) (M : Term) → ((i : ℕ) → U i ≡ true → τ (ρ i) ≡ i) → Uses U M → rename τ (rename ρ M) ≡ M
  renamed_back U ρ τ (lambda M) h u = ap lambda (renamed_back (under U) (lift_renaming ρ) (lift_renaming τ) M (back_under U ρ τ h) u)
  renamed_back U ρ τ (root (constant c) S) h u = ap (root (constant c)) (renamed_spine_back U ρ τ S h u)
  renamed_back U ρ τ (root (metavariable m) S) h u = ap (root (metavariable m)) (renamed_spine_back U ρ τ S h u)
  renamed_back U ρ τ (root (variable i) S) h u = ap₂ (λ j T. root (variable j) T) (h i u.0) (renamed_spine_back U ρ τ S h u.1)

  renamed_spine_back : (U : ℕ → Bool) (ρ τ : ℕ → ℕ) (S : Spine) → ((i : ℕ) → U i ≡ true → τ (ρ i) ≡ i) → UsesSpine U S → rename_spine τ (rename_spine ρ S) ≡ S
  renamed_spine_back U ρ τ nil h u = refl
  renamed_spine_back U ρ τ (app M S) h u = ap₂ app (renamed_back U ρ τ M h u.0) (renamed_spine_back U ρ τ S h u.1)

-- with one more variable
abbrev with_one : ℕ → (ℕ → Bool) → ℕ → Bool
with_one y V i = either (same_number i y) (V i)

either_right : (a : Bool) → either a true ≡ true
either_right true = refl
either_right false = refl

either_false : (a : Bool) → either a false ≡ a
either_false true = refl
either_false false = refl

either_none : (a b : Bool) → either a b ≡ false → (a ≡ false) × (b ≡ false)
either_none true b e = absurd cc
either_none false b e = (refl, e)

with_front : (V : ℕ → Bool) (y i : ℕ) → under V i ≡ true → with_one y V (at_variable y i) ≡ true
with_front V y zero u = ap (λ b. either b (V y)) (same_self y)
with_front V y (suc i) u = ap (either (same_number i y)) u ∙ either_right (same_number i y)

same_turned : (i j : ℕ) → same_number i j ≡ same_number j i
same_turned zero zero = refl
same_turned zero (suc j) = refl
same_turned (suc i) zero = refl
same_turned (suc i) (suc j) = same_turned i j

fresh_more : (V : ℕ → Bool) (y : ℕ) (ys : List ℕ) → Fresh V ys → is_in y ys ≡ false → Fresh (with_one y V) ys
fresh_more V y [] f e = tt
fresh_more V y (z ∷ ys) (v, f, d) e =
    let (p, q) = either_none (same_number y z) (is_in y ys) e in
    (ap₂ either (same_turned z y ∙ p) v, fresh_more V y ys f q, d)

abstracted_applied : (V : ℕ → Bool) (ys : List ℕ) (N : Term) → Takes ys N → Uses V N → Fresh V ys → abstracted ys (applied ys N) ≡ N
abstracted_applied V [] N t u f = refl
abstracted_applied V (y ∷ ys) (root h S) t u f = absurd t
abstracted_applied V (y ∷ ys) (lambda N) t u (v, f, d) =
    let N' : Term = rename (at_variable y) N in
    let r : abstracted ys (applied ys N') ≡ N' = abstracted_applied (with_one y V) ys N' (takes_on (at_variable y) ys N t) (uses_renamed (under V) (with_one y V) (at_variable y) N (with_front V y) u) (fresh_more V y ys f d) in
    ap (λ X. lambda (rename (to_front y) X)) r ∙ ap lambda (renamed_back (under V) (at_variable y) (to_front y) N (front_under V y v) u)
  where
    takes_on : (ρ : ℕ → ℕ) (zs : List ℕ) (M : Term) → Takes zs M → Takes zs (rename ρ M)
    takes_on ρ [] M t = tt
    takes_on ρ (z ∷ zs) (lambda M) t = takes_on (lift_renaming ρ) zs M t
    takes_on ρ (z ∷ zs) (root h S) t = absurd t

-- A term moved over the n newest variables.
abbrev pub moved : ℕ → Term → Term
moved zero N = N
moved (suc n) N = rename suc (moved n N)

one_further : (n i : ℕ) → suc (shift_by n i) ≡ shift_by (suc n) i
one_further n i = omega arith

moved_shift : (n : ℕ) (N : Term) → moved n N ≡ rename (shift_by n) N
moved_shift zero N = sym (shift_zero N)
moved_shift (suc n) N = ap (rename suc) (moved_shift n N) ∙ renamings_compose suc (shift_by n) N ∙ ap (λ ρ. rename ρ N) (fun_ext (one_further n))

-- what the n newest variables aren't
abbrev past : ℕ → ℕ → Bool
past n i = not (newest n i)

past_shift : (n i : ℕ) → past n (i + n) ≡ true
past_shift n i = ap not (newest_out n (i + n) (omega arith))

nearer_shift : (n i : ℕ) → nearer n (shift_by n i) ≡ i
nearer_shift n i = omega arith

inverted_applied : (n : ℕ) (ys : List ℕ) (N : Term) → Takes ys (moved n N) → Fresh (past n) ys → inverted n ys (applied ys (moved n N)) ≡ N
inverted_applied n ys N t f =
    let u : Uses (past n) (moved n N) = subst (Uses (past n)) (sym (moved_shift n N)) (uses_renamed everything (past n) (shift_by n) N (λ i e. past_shift n i) (uses_all everything N (λ i. refl))) in
    ap (rename (nearer n)) (abstracted_applied (past n) ys (moved n N) t u f ∙ moved_shift n N) ∙ renamed_back everything (shift_by n) (nearer n) N (λ i e. nearer_shift n i) (uses_all everything N (λ i. refl))

-- The heads of a pattern are different, and none is past the bound variables.
not_false : (b : Bool) → not b ≡ true → b ≡ false
not_false true q = absurd cc
not_false false q = refl

clash : false ≡ true → ⊥
clash r = cc

other_number : (seen : List ℕ) (y z : ℕ) → is_in z seen ≡ true → is_in y seen ≡ false → same_number z y ≡ false
other_number seen y z w out = same_not z y (λ k. clash (sym out ∙ ap (λ i. is_in i seen) (sym k) ∙ w))

module _ (B V : ℕ → Bool) (apart : (y : ℕ) → B y ≡ true → V y ≡ false) where
  abbrev FreshFrom : List ℕ → List ℕ → Type 0
  FreshFrom seen ys = Fresh V ys × ((z : ℕ) → is_in z seen ≡ true → is_in z ys ≡ false)

  fresh_step : (seen : List ℕ) (M : Term) (S : Spine) (o : Option ℕ) → both (is_bound B seen M o) (pattern_arguments B (with_seen o seen) S) ≡ true → ((y : ℕ) → pattern_arguments B (y ∷ seen) S ≡ true → FreshFrom (y ∷ seen) (heads S)) → FreshFrom seen (with_seen o (heads S))
  fresh_step seen M S None q ih = absurd cc
  fresh_step seen M S (Some y) q ih =
      let b : both (B y) (not (is_in y seen)) ≡ true = both_r (eta_at zero y M) (both (B y) (not (is_in y seen))) (both_l (is_bound B seen M (Some y)) (pattern_arguments B (y ∷ seen) S) q) in
      let (f, g) = ih y (both_r (is_bound B seen M (Some y)) (pattern_arguments B (y ∷ seen) S) q) in
      let out : is_in y seen ≡ false = not_false (is_in y seen) (both_r (B y) (not (is_in y seen)) b) in
      ((apart y (both_l (B y) (not (is_in y seen)) b), f, g y (ap (λ t. either t (is_in y seen)) (same_self y))), λ z w. ap₂ either (other_number seen y z w out) (g z (ap (either (same_number z y)) w ∙ either_right (same_number z y))))

  pattern_fresh : (seen : List ℕ) (S : Spine) → pattern_arguments B seen S ≡ true → FreshFrom seen (heads S)
  pattern_fresh seen nil e = (tt, λ z q. refl)
  pattern_fresh seen (app M S) e = fresh_step seen M S (head_variable zero M) e (λ y q. pattern_fresh (y ∷ seen) S q)

newest_apart : (n y : ℕ) → newest n y ≡ true → past n y ≡ false
newest_apart n y e = ap not e

hidden_nothing_at : (i : ℕ) → hide nothing i ≡ nothing i
hidden_nothing_at zero = refl
hidden_nothing_at (suc i) = refl

pub hidden_nothing : hide nothing ≡ nothing
hidden_nothing = fun_ext hidden_nothing_at

-- what stands for bound variables
abbrev pub KeepsNewest : ℕ → (ℕ → Image) → Type 0
KeepsNewest n σ = (y : ℕ) → newest n y ≡ true → σ y ≡ keep y

keeps_under : (n : ℕ) (σ : ℕ → Image) → KeepsNewest n σ → KeepsNewest (suc n) (lift σ)
keeps_under n σ h zero e = refl
keeps_under n σ h (suc y) e = ap (rename_image suc) (h y e)

module _ (Σ : Signature) (ok : IsSignature Σ) where
  argument_back : (Δ : List Skeleton) (s1 s2 b : Skeleton) (k : ℕ) (N : Term) → TermSkeleton (constant_skeletons Σ) (s1 ∷ Δ) N s2 → SkeletonAt Δ k s1 → SameForm b s1 → substitute reduce (single s1 (eta_long b (variable k))) N ≡ rename (at_variable k) N
  argument_back Δ s1 s2 b k N n g f = eta_renames (constant_skeletons Σ) (s1 ∷ Δ) Δ (single s1 (eta_long b (variable k))) (at_variable k) N s2 like fit renames n
    where
      like : EtaLike (λ c. Unit {0}) (single s1 (eta_long b (variable k))) (at_variable k)
      like zero = (tt, eta_form b s1 (variable k) nil f)
      like (suc i) = refl

      fit : Fits (s1 ∷ Δ) (single s1 (eta_long b (variable k)))
      fit zero t e = e
      fit (suc i) t e = tt

      renames : (i : ℕ) (t : Skeleton) → SkeletonAt (s1 ∷ Δ) i t → SkeletonAt Δ (at_variable k i) t
      renames zero t e = subst (SkeletonAt Δ k) e g
      renames (suc i) t e = e

  into : (Δ : List Skeleton) (k : ℕ) (s1 : Skeleton) → SkeletonAt Δ k s1 → (i : ℕ) (t : Skeleton) → SkeletonAt (s1 ∷ Δ) i t → SkeletonAt Δ (at_variable k i) t
  into Δ k s1 g zero t e = subst (SkeletonAt Δ k) e g
  into Δ k s1 g (suc i) t e = e

  -- the value applied to a pattern, and that it takes so many arguments
  abbrev Applies : Skeleton → Term → Spine → List ℕ → Type 0
  Applies a N S' ys = (reduce a N S' ≡ applied ys N) × Takes ys N

  module _ (n : ℕ) (C : List LfType) (Δ : List Skeleton) (σ : ℕ → Image) (c : IsContext Σ C) (w : SubstitutionBySkeletons (constant_skeletons Σ) (context_skeletons C) Δ σ) (kb : KeepsNewest n σ) where
    applied_to_one : (seen : List ℕ) (M : Term) (S : Spine) (A1 A2 Z : LfType) (s1 s2 : Skeleton) (N : Term) (o : Option ℕ) → IsType Σ C A1 → IsType Σ (A1 ∷ C) A2 → HasType Σ C M A1 → SpineType Σ C S (instantiate_type A1 M A2) Z → both (is_bound (newest n) seen M o) (pattern_arguments (newest n) (with_seen o seen) S) ≡ true → skeleton (pi A1 A2) ≡ arrow s1 s2 → TermSkeleton (constant_skeletons Σ) Δ (lambda N) (arrow s1 s2) → ((y : ℕ) (B : LfType) (L : Term) → IsType Σ C B → SpineType Σ C S B Z → pattern_arguments (newest n) (y ∷ seen) S ≡ true → skeleton B ≡ s2 → TermSkeleton (constant_skeletons Σ) Δ L s2 → Applies s2 L (substitute_spine reduce σ S) (heads S)) → Applies (arrow s1 s2) (lambda N) (app (substitute reduce σ M) (substitute_spine reduce σ S)) (with_seen o (heads S))
    applied_to_one seen M S A1 A2 Z s1 s2 N None t1 t2 m s e q k ih = absurd cc
    applied_to_one seen M S A1 A2 Z s1 s2 N (Some y) t1 t2 m s e q k ih =
        let b1 : is_bound (newest n) seen M (Some y) ≡ true = both_l (is_bound (newest n) seen M (Some y)) (pattern_arguments (newest n) (y ∷ seen) S) e in
        let (b, me) = is_eta y M (both_l (eta_at zero y M) (both (newest n y) (not (is_in y seen))) b1) in
        let by : newest n y ≡ true = both_l (newest n y) (not (is_in y seen)) (both_r (eta_at zero y M) (both (newest n y) (not (is_in y seen))) b1) in
        let ke : σ y ≡ keep y = kb y by in
        let m' : HasType Σ C (eta_long b (variable y)) A1 = subst (λ X. HasType Σ C X A1) me m in
        let (Y, g) = eta_at_type Σ ok b C y nil A1 m' in
        let (f, yw) = eta_spine Σ ok b C y nil Y A1 c g t1 m' in
        let q1 : skeleton A1 ≡ s1 = cc in
        let q2 : skeleton A2 ≡ s2 = cc in
        let sy : SkeletonAt Δ y s1 = subst (λ x. ImageSkeleton (constant_skeletons Σ) Δ x s1) ke (w y s1 (subst (SkeletonAt (context_skeletons C) y) (ap skeleton yw ∙ q1) (variable_has_skeleton C y Y g))) in
        let es : substitute reduce σ M ≡ eta_long b (variable y) = ap (substitute reduce σ) me ∙ substitute_eta_expand σ b (variable y) (variable y) nil ke in
        let ev : reduce (arrow s1 s2) (lambda N) (app (substitute reduce σ M) (substitute_spine reduce σ S)) ≡ reduce s2 (rename (at_variable y) N) (substitute_spine reduce σ S) = reduction_beta s1 s2 N (substitute reduce σ M) (substitute_spine reduce σ S) ∙ ap (λ X. reduce s2 (substitute reduce (single s1 X) N) (substitute_spine reduce σ S)) es ∙ ap (λ X. reduce s2 X (substitute_spine reduce σ S)) (argument_back Δ s1 s2 b y N k sy (subst (SameForm b) q1 f)) in
        let k' : TermSkeleton (constant_skeletons Σ) Δ (rename (at_variable y) N) s2 = renaming_keeps_skeletons (constant_skeletons Σ) (s1 ∷ Δ) Δ (at_variable y) N s2 (into Δ y s1 sy) k in
        let (r, t) = ih y (instantiate_type A1 M A2) (rename (at_variable y) N) (instance_is_type Σ ok C A1 M A2 c t1 t2 m) s (both_r (is_bound (newest n) seen M (Some y)) (pattern_arguments (newest n) (y ∷ seen) S) e) (skeleton_substituted reduce (single (skeleton A1) M) A2 ∙ q2) k' in
        (ev ∙ r, takes_back (at_variable y) (heads S) N t)

    applied_to_pattern : (seen : List ℕ) (S : Spine) (A Z : LfType) (a : Skeleton) (N : Term) → IsType Σ C A → SpineType Σ C S A Z → pattern_arguments (newest n) seen S ≡ true → skeleton A ≡ a → TermSkeleton (constant_skeletons Σ) Δ N a → Applies a N (substitute_spine reduce σ S) (heads S)
    applied_to_pattern seen nil A Z a N t s e q m = (reduce_nil a N, tt)
    applied_to_pattern seen (app M S) (atom d T) Z a N t s e q m = absurd s
    applied_to_pattern seen (app M S) (pi A1 A2) Z (base d) N t s e q m = absurd cc
    applied_to_pattern seen (app M S) (pi A1 A2) Z (arrow s1 s2) (root h T) t s e q m = absurd m
    applied_to_pattern seen (app M S) (pi A1 A2) Z (arrow s1 s2) (lambda N) (t1, t2) (m, s) e q k = applied_to_one seen M S A1 A2 Z s1 s2 N (head_variable zero M) t1 t2 m s e q k (λ y B L tb sb eb qb kb'. applied_to_pattern (y ∷ seen) S B Z s2 L tb sb eb qb kb')

    -- what stands for the variable gives its value back
    stands : (S : Spine) (A Z : LfType) (a : Skeleton) (N : Term) → IsType Σ C A → SpineType Σ C S A Z → skeleton A ≡ a → TermSkeleton (constant_skeletons Σ) Δ (moved n N) a → standing n S (reduce a (moved n N) (substitute_spine reduce σ S)) ≡ found (pattern_arguments (newest n) [] S) N
    stands S A Z a N t s q m = by (pattern_arguments (newest n) [] S) refl
      where
        T : Term
        T = reduce a (moved n N) (substitute_spine reduce σ S)

        by : (b : Bool) → pattern_arguments (newest n) [] S ≡ b → cond b (Some (inverted n (heads S) T)) None ≡ found b N
        by false e = refl
        by true e =
            let (r, k) = applied_to_pattern [] S A Z a (moved n N) t s e q m in
            let (f, g) = pattern_fresh (newest n) (past n) (newest_apart n) [] S e in
            ap Some (ap (inverted n (heads S)) r ∙ inverted_applied n (heads S) N k f)

  value_under : (n : ℕ) (σ : ℕ → Image) (x : ℕ) (a : Skeleton) (N : Term) → σ x ≡ put a (moved n N) → lift σ (suc x) ≡ put a (moved (suc n) N)
  value_under n σ x a N q = ap (rename_image suc) q

  moved_typed : (n : ℕ) (Δ : List Skeleton) (s a : Skeleton) (N : Term) → TermSkeleton (constant_skeletons Σ) Δ (moved n N) a → TermSkeleton (constant_skeletons Σ) (s ∷ Δ) (moved (suc n) N) a
  moved_typed n Δ s a N m = renaming_keeps_skeletons (constant_skeletons Σ) Δ (s ∷ Δ) suc (moved n N) a (λ i t h. h) m

  one_skeleton : (Γ : List Skeleton) (i : ℕ) (s t : Skeleton) → SkeletonAt Γ i s → SkeletonAt Γ i t → s ≡ t
  one_skeleton [] i s t g h = absurd g
  one_skeleton (r ∷ Γ) zero s t g h = sym g ∙ h
  one_skeleton (r ∷ Γ) (suc i) s t g h = one_skeleton Γ i s t g h

  -- What is found is what was put in.
  abbrev FoundIn : ℕ → ℕ → Term → (ℕ → Image) → Term → Type 0
  FoundIn n x N σ M = value_in n x M (substitute reduce σ M) ≡ found (strict (newest n) nothing x M) N

  abbrev FoundInSpine : ℕ → ℕ → Term → (ℕ → Image) → Spine → Type 0
  FoundInSpine n x N σ S = value_in_spine n x S (substitute_spine reduce σ S) ≡ found (strict_spine (newest n) nothing x S) N

  found_at_variable : (n : ℕ) (C : List LfType) (Δ : List Skeleton) (σ : ℕ → Image) (x : ℕ) (a : Skeleton) (N : Term) (j : ℕ) (S : Spine) (A Z : LfType) → IsContext Σ C → IsType Σ C A → SubstitutionBySkeletons (constant_skeletons Σ) (context_skeletons C) Δ σ → KeepsNewest n σ → σ x ≡ put a (moved n N) → TermSkeleton (constant_skeletons Σ) Δ (moved n N) a → SkeletonAt (context_skeletons C) x a → SkeletonAt (context_skeletons C) j (skeleton A) → SpineType Σ C S A Z → FoundInSpine n x N σ S → FoundIn n x N σ (root (variable j) S)
  found_at_variable n C Δ σ x a N j S A Z c t w kb q m g gj s ih =
      ap₂ first_of (found_both (same_number j x) (pattern_arguments (newest n) [] S) N (standing n S T) here) (ap (λ v. cond (newest n j) v None) refl ∙ found_both (newest n j) (strict_spine (newest n) nothing x S) N (value_in_spine n x S (arguments_of T)) under_it ∙ ap (λ b. found (both b (strict_spine (newest n) nothing x S)) N) (sym (either_false (newest n j))))
      ∙ found_either (both (same_number j x) (pattern_arguments (newest n) [] S)) (both (either (newest n j) false) (strict_spine (newest n) nothing x S)) N
    where
      T : Term
      T = apply_image reduce (σ j) (substitute_spine reduce σ S)

      here : same_number j x ≡ true → standing n S T ≡ found (pattern_arguments (newest n) [] S) N
      here e =
          let jx : j ≡ x = number_is j x e in
          let sa : skeleton A ≡ a = one_skeleton (context_skeletons C) x (skeleton A) a (subst (λ i. SkeletonAt (context_skeletons C) i (skeleton A)) jx gj) g in
          ap (λ y. standing n S (apply_image reduce y (substitute_spine reduce σ S))) (ap σ jx ∙ q) ∙ stands n C Δ σ c w kb S A Z a N t s sa m

      under_it : newest n j ≡ true → value_in_spine n x S (arguments_of T) ≡ found (strict_spine (newest n) nothing x S) N
      under_it e = ap (λ y. value_in_spine n x S (arguments_of (apply_image reduce y (substitute_spine reduce σ S)))) (kb j e) ∙ ih

  mutual
    found_in : (n : ℕ) (C : List LfType) (Δ : List Skeleton) (σ : ℕ → Image) (x : ℕ) (a : Skeleton) (N M : Term) (P : LfType) → IsContext Σ C → IsType Σ C P → SubstitutionBySkeletons (constant_skeletons Σ) (context_skeletons C) Δ σ → KeepsNewest n σ → σ x ≡ put a (moved n N) → TermSkeleton (constant_skeletons Σ) Δ (moved n N) a → SkeletonAt (context_skeletons C) x a → HasType Σ C M P → FoundIn n x N σ M
    found_in n C Δ σ x a N (lambda M) (atom d T) c t w kb q m g h = absurd h
    found_in n C Δ σ x a N (lambda M) (pi A P) c (t1, t2) w kb q m g h = found_in (suc n) (A ∷ C) (skeleton A ∷ Δ) (lift σ) (suc x) a N M P (c, t1) t2 (lift_by_skeletons (constant_skeletons Σ) (skeleton A) (context_skeletons C) Δ σ w) (keeps_under n σ kb) (value_under n σ x a N q) (moved_typed n Δ (skeleton A) a N m) g h ∙ ap (λ F. found (strict (newest (suc n)) F (suc x) M) N) (sym hidden_nothing)
    found_in n C Δ σ x a N (root h S) (pi A P) c t w kb q m g k = absurd k
    found_in n C Δ σ x a N (root (constant d) S) (atom b T) c t w kb q m g (A, k, s) = found_in_spine n C Δ σ x a N S A (atom b T) c (constant_type Σ ok C d A k) w kb q m g s
    found_in n C Δ σ x a N (root (metavariable d) S) (atom b T) c t w kb q m g (A, k, s) = absurd k
    found_in n C Δ σ x a N (root (variable j) S) (atom b T) c t w kb q m g (A, k, s) = found_at_variable n C Δ σ x a N j S A (atom b T) c (declared_is_type Σ ok C j A c k) w kb q m g (variable_has_skeleton C j A k) s (found_in_spine n C Δ σ x a N S A (atom b T) c (declared_is_type Σ ok C j A c k) w kb q m g s)

    found_in_spine : (n : ℕ) (C : List LfType) (Δ : List Skeleton) (σ : ℕ → Image) (x : ℕ) (a : Skeleton) (N : Term) (S : Spine) (A Z : LfType) → IsContext Σ C → IsType Σ C A → SubstitutionBySkeletons (constant_skeletons Σ) (context_skeletons C) Δ σ → KeepsNewest n σ → σ x ≡ put a (moved n N) → TermSkeleton (constant_skeletons Σ) Δ (moved n N) a → SkeletonAt (context_skeletons C) x a → SpineType Σ C S A Z → FoundInSpine n x N σ S
    found_in_spine n C Δ σ x a N nil A Z c t w kb q m g s = refl
    found_in_spine n C Δ σ x a N (app M S) (atom b T) Z c t w kb q m g s = absurd s
    found_in_spine n C Δ σ x a N (app M S) (pi A1 A2) Z c (t1, t2) w kb q m g (h, s) = ap₂ first_of (found_in n C Δ σ x a N M A1 c t1 w kb q m g h) (found_in_spine n C Δ σ x a N S (instantiate_type A1 M A2) Z c (instance_is_type Σ ok C A1 M A2 c t1 t2 h) w kb q m g s) ∙ found_either (strict (newest n) nothing x M) (strict_spine (newest n) nothing x S) N

  found_in_kind : (n : ℕ) (C : List LfType) (Δ : List Skeleton) (σ : ℕ → Image) (x : ℕ) (a : Skeleton) (N : Term) (S : Spine) (K : Kind) → IsContext Σ C → IsKind Σ C K → SubstitutionBySkeletons (constant_skeletons Σ) (context_skeletons C) Δ σ → KeepsNewest n σ → σ x ≡ put a (moved n N) → TermSkeleton (constant_skeletons Σ) Δ (moved n N) a → SkeletonAt (context_skeletons C) x a → SpineFitsKind Σ C S K → FoundInSpine n x N σ S
  found_in_kind n C Δ σ x a N nil K c t w kb q m g s = refl
  found_in_kind n C Δ σ x a N (app M S) star c t w kb q m g s = absurd s
  found_in_kind n C Δ σ x a N (app M S) (kind_pi A K) c (t1, t2) w kb q m g (h, s) = ap₂ first_of (found_in n C Δ σ x a N M A c t1 w kb q m g h) (found_in_kind n C Δ σ x a N S (instantiate_kind A M K) c (substitution_keeps_kinds Σ ok (A ∷ C) C (single (skeleton A) M) K (single_substitution_typed Σ ok C A M (skeleton_context_of Σ ok C c) (type_by_skeletons Σ C A t1) h) t2) w kb q m g s) ∙ found_either (strict (newest n) nothing x M) (strict_spine (newest n) nothing x S) N

  pub found_in_type : (n : ℕ) (C : List LfType) (Δ : List Skeleton) (σ : ℕ → Image) (x : ℕ) (a : Skeleton) (N : Term) (E : LfType) → IsContext Σ C → IsType Σ C E → SubstitutionBySkeletons (constant_skeletons Σ) (context_skeletons C) Δ σ → KeepsNewest n σ → σ x ≡ put a (moved n N) → TermSkeleton (constant_skeletons Σ) Δ (moved n N) a → SkeletonAt (context_skeletons C) x a → value_in_type n x E (substitute_type reduce σ E) ≡ found (strict_type (newest n) nothing x E) N
  found_in_type n C Δ σ x a N (atom b S) c (K, k, s) w kb q m g = found_in_kind n C Δ σ x a N S K c (family_kind Σ ok C b K k) w kb q m g s
  found_in_type n C Δ σ x a N (pi A E) c (t1, t2) w kb q m g =
      ap₂ first_of (found_in_type n C Δ σ x a N A c t1 w kb q m g) (found_in_type (suc n) (A ∷ C) (skeleton A ∷ Δ) (lift σ) (suc x) a N E (c, t1) t2 (lift_by_skeletons (constant_skeletons Σ) (skeleton A) (context_skeletons C) Δ σ w) (keeps_under n σ kb) (value_under n σ x a N q) (moved_typed n Δ (skeleton A) a N m) g ∙ ap (λ F. found (strict_type (newest (suc n)) F (suc x) E) N) (sym hidden_nothing))
      ∙ found_either (strict_type (newest n) nothing x A) (strict_type (under (newest n)) (hide nothing) (suc x) E) N
