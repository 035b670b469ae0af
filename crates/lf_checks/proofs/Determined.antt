-- Equal instances give equal values to the variables with a strict occurrence.
use Rattle.lf_checks.specs.Strict.{head_variable, is_bound, pattern_arguments, strict_at, with_seen, eta_at, strict, strict_spine}
use Rattle.lf_checks.specs.Tests.{both, either, is_in}
use Rattle.lf_checks.specs.Marks.{SamePlaces}
use Rattle.std.proofs.Common.{◌≡◌, ℕ, zero, suc, List, [], ◌∷◌, refl, sym, ap, ◌∙◌, subst, inl, inr}
use Rattle.std.specs.Prelude.{Bool, true, false, Option, Some, None, not, ◌⊎◌}
use Rattle.lf.specs.Syntax.{Head, constant, variable, metavariable, Term, Spine, lambda, root, nil, app, LfType, Kind, pi, atom, kind_pi, star, Skeleton, base, arrow, skeleton, rename}
use Rattle.lf.specs.Substitution.{Image, keep, put, rename_image, lift, single, apply_image, substitute, substitute_spine, reduce}
use Rattle.lf.specs.SkeletonTyping.{SkeletonAt, TermSkeleton, ImageSkeleton, SubstitutionBySkeletons}
use Rattle.lf.specs.Typing.{Signature, instantiate_type, instantiate_kind, HasType, SpineType, SpineFitsKind, IsType, IsKind, IsContext, IsSignature}
use Rattle.lf.specs.Variables.{under, hide, everything, nothing, Uses, SameOn, same_number, at_variable}
use Rattle.lf.specs.Eta.{eta_long}
use Rattle.lf.specs.Skeletons.{constant_skeletons, context_skeletons}
use Rattle.lf.proofs.Renaming.{renamings_compose, substitute_identity, substitute_weakened, reduction_beta}
use Rattle.lf.proofs.TypeLaws.{skeleton_substituted, substitution_as_renaming}
use Rattle.lf.proofs.ToSkeletons.{variable_has_skeleton, type_by_skeletons}
use Rattle.lf.proofs.Weakening.{declared_is_type}
use Rattle.lf.proofs.Substitution.{skeleton_context_of, single_substitution_typed, instance_is_type, constant_type}
use Rattle.lf.proofs.Regular.{substitution_keeps_kinds}
use Rattle.lf.proofs.SkeletonTyping.{renaming_keeps_skeletons, lift_by_skeletons}
use Rattle.lf.proofs.Agreement.{agree_on}
use Rattle.lf.proofs.Uses.{uses_renamed}
use Rattle.lf.proofs.Partial.{uses_all}
use Rattle.lf.proofs.Eta.{EtaLike, Fits, eta_renames, reduce_nil, substitute_eta_expand}
use Rattle.lf.proofs.EtaTypes.{SameForm, eta_form, eta_spine, eta_at_type}
use Rattle.lf_checks.proofs.EtaTest.{both_l, both_r, is_eta}
use Rattle.lf_checks.proofs.StrictTypes.{either_cases}

-- σ and τ keep the variables of B where they are, and keep those of F alike
abbrev pub KeptSame : (ℕ → Bool) → (ℕ → Image) → (ℕ → Image) → Type 0
KeptSame B σ τ = (i : ℕ) → B i ≡ true → (σ i ≡ keep i) × (τ i ≡ keep i)

abbrev pub KeptAlike : (ℕ → Bool) → (ℕ → Image) → (ℕ → Image) → Type 0
KeptAlike F σ τ = (i : ℕ) → F i ≡ true → (j : ℕ) × (σ i ≡ keep j) × (τ i ≡ keep j)

abbrev pub Apart : (ℕ → Bool) → (ℕ → Bool) → Type 0
Apart V B = (i : ℕ) → V i ≡ true → B i ≡ true → ⊥

pub same_lift : (B : ℕ → Bool) (σ τ : ℕ → Image) → KeptSame B σ τ → KeptSame (under B) (lift σ) (lift τ)
same_lift B σ τ h zero e = (refl, refl)
same_lift B σ τ h (suc i) e = let (p, q) = h i e in (ap (rename_image suc) p, ap (rename_image suc) q)

pub alike_lift : (F : ℕ → Bool) (σ τ : ℕ → Image) → KeptAlike F σ τ → KeptAlike (hide F) (lift σ) (lift τ)
alike_lift F σ τ h zero e = absurd cc
alike_lift F σ τ h (suc i) e = let (j, p, q) = h i e in (suc j, ap (rename_image suc) p, ap (rename_image suc) q)

pub apart_lift : (V B : ℕ → Bool) → Apart V B → Apart (hide V) (under B)
apart_lift V B h zero v b = absurd cc
apart_lift V B h (suc i) v b = h i v b

lam_inj : {M N : Term} → lambda M ≡ lambda N → M ≡ N
lam_inj e = cc

root_inj : {h k : Head} {S T : Spine} → root h S ≡ root k T → S ≡ T
root_inj e = cc

pub app_first : {M N : Term} {S T : Spine} → app M S ≡ app N T → M ≡ N
app_first e = cc

pub app_rest : {M N : Term} {S T : Spine} → app M S ≡ app N T → S ≡ T
app_rest e = cc

pub unsuc : (N N' : Term) → rename suc N ≡ rename suc N' → N ≡ N'
unsuc N N' e = sym (substitute_weakened reduce (base 0) N N) ∙ ap (substitute reduce (single (base 0) N)) e ∙ substitute_weakened reduce (base 0) N N'

same_refl : (i : ℕ) → same_number i i ≡ true
same_refl zero = refl
same_refl (suc i) = same_refl i

number_equal : (i j : ℕ) → same_number i j ≡ true → i ≡ j
number_equal zero zero e = refl
number_equal zero (suc j) e = absurd cc
number_equal (suc i) zero e = absurd cc
number_equal (suc i) (suc j) e = ap suc (number_equal i j e)

not_true : (b : Bool) → not b ≡ true → b ≡ false
not_true true e = absurd cc
not_true false e = refl

either_true : (a b : Bool) → b ≡ true → either a b ≡ true
either_true true b e = refl
either_true false b e = e

-- y put in for the newest variable, and back
abbrev back_of : Bool → ℕ → ℕ
back_of true i = zero
back_of false i = suc i

abbrev back : ℕ → ℕ → ℕ
back y i = back_of (same_number i y) i

abbrev with_variable : ℕ → (ℕ → Bool) → ℕ → Bool
with_variable y V i = either (same_number i y) (V i)

back_same : (y : ℕ) (V : ℕ → Bool) → (V y ≡ true → ⊥) → SameOn (under V) (λ i. keep (back y (at_variable y i))) keep
back_same y V h zero e = ap (λ b. keep (back_of b y)) (same_refl y)
back_same y V h (suc i) e = by (same_number i y) refl
  where
    by : (b : Bool) → same_number i y ≡ b → keep (back_of (same_number i y) i) ≡ keep (suc i)
    by true q = absurd (h (subst (λ j. V j ≡ true) (number_equal i y q) e))
    by false q = ap (λ b. keep (back_of b i)) q

back_term : (y : ℕ) (V : ℕ → Bool) (N : Term) → (V y ≡ true → ⊥) → Uses (under V) N → rename (back y) (rename (at_variable y) N) ≡ N
back_term y V N h u = renamings_compose (back y) (at_variable y) N ∙ sym (substitution_as_renaming reduce (λ i. back y (at_variable y i)) N) ∙ agree_on reduce (under V) (λ i. keep (back y (at_variable y i))) keep N (back_same y V h) u ∙ substitute_identity reduce N

moved_in : (y : ℕ) (V : ℕ → Bool) (N : Term) → Uses (under V) N → Uses (with_variable y V) (rename (at_variable y) N)
moved_in y V N u = uses_renamed (under V) (with_variable y V) (at_variable y) N at u
  where
    at : (i : ℕ) → under V i ≡ true → with_variable y V (at_variable y i) ≡ true
    at zero e = ap (λ b. either b (V y)) (same_refl y)
    at (suc i) e = either_true (same_number i y) (V i) e

module _ (Σ : Signature) (ok : IsSignature Σ) where
  bound : (B : ℕ → Bool) (seen : List ℕ) (M : Term) (o : Option ℕ) → is_bound B seen M o ≡ true → (y : ℕ) × (a : Skeleton) × (o ≡ Some y) × (B y ≡ true) × (is_in y seen ≡ false) × (M ≡ eta_long a (variable y))
  bound B seen M None e = absurd cc
  bound B seen M (Some y) e =
      let r : both (B y) (not (is_in y seen)) ≡ true = both_r (eta_at zero y M) (both (B y) (not (is_in y seen))) e in
      let (a, q) = is_eta y M (both_l (eta_at zero y M) (both (B y) (not (is_in y seen))) e) in
      (y, a, refl, both_l (B y) (not (is_in y seen)) r, not_true (is_in y seen) (both_r (B y) (not (is_in y seen)) r), q)

  argument : (Δ : List Skeleton) (s1 s2 : Skeleton) (b : Skeleton) (k : ℕ) (N : Term) → TermSkeleton (constant_skeletons Σ) (s1 ∷ Δ) N s2 → SkeletonAt Δ k s1 → SameForm b s1 → substitute reduce (single s1 (eta_long b (variable k))) N ≡ rename (at_variable k) N
  argument Δ s1 s2 b k N n g f = eta_renames (constant_skeletons Σ) (s1 ∷ Δ) Δ (single s1 (eta_long b (variable k))) (at_variable k) N s2 like fit into n
    where
      like : EtaLike (λ c. Unit {0}) (single s1 (eta_long b (variable k))) (at_variable k)
      like zero = (tt, eta_form b s1 (variable k) nil f)
      like (suc i) = refl

      fit : Fits (s1 ∷ Δ) (single s1 (eta_long b (variable k)))
      fit zero t e = e
      fit (suc i) t e = tt

      into : (i : ℕ) (t : Skeleton) → SkeletonAt (s1 ∷ Δ) i t → SkeletonAt Δ (at_variable k i) t
      into zero t e = subst (SkeletonAt Δ k) e g
      into (suc i) t e = e

  -- a body applied to distinct bound variables that it does not use is determined by the result
  pattern_same : (B V : ℕ → Bool) (C : List LfType) (Δ : List Skeleton) (σ τ : ℕ → Image) (seen : List ℕ) (S : Spine) (A Z : LfType) (a : Skeleton) (N N' : Term) → IsContext Σ C → IsType Σ C A → SubstitutionBySkeletons (constant_skeletons Σ) (context_skeletons C) Δ σ → KeptSame B σ τ → SpineType Σ C S A Z → pattern_arguments B seen S ≡ true → skeleton A ≡ a → TermSkeleton (constant_skeletons Σ) Δ N a → TermSkeleton (constant_skeletons Σ) Δ N' a → Uses V N → Uses V N' → ((i : ℕ) → V i ≡ true → B i ≡ true → is_in i seen ≡ false → ⊥) → reduce a N (substitute_spine reduce σ S) ≡ reduce a N' (substitute_spine reduce τ S) → N ≡ N'
  pattern_same B V C Δ σ τ seen nil A Z a N N' c t w kb s e q n n' u u' p r = sym (reduce_nil a N) ∙ r ∙ reduce_nil a N'
  pattern_same B V C Δ σ τ seen (app M S) (atom d T) Z a N N' c t w kb s e q n n' u u' p r = absurd s
  pattern_same B V C Δ σ τ seen (app M S) (pi A1 A2) Z (base d) N N' c t w kb s e q n n' u u' p r = absurd cc
  pattern_same B V C Δ σ τ seen (app M S) (pi A1 A2) Z (arrow s1 s2) (root h T) N' c t w kb s e q n n' u u' p r = absurd n
  pattern_same B V C Δ σ τ seen (app M S) (pi A1 A2) Z (arrow s1 s2) (lambda N) (root h T) c t w kb s e q n n' u u' p r = absurd n'
  pattern_same B V C Δ σ τ seen (app M S) (pi A1 A2) Z (arrow s1 s2) (lambda N) (lambda N') c (t1, t2) w kb (m, s) e q n n' u u' p r =
      let o : Option ℕ = head_variable zero M in
      let (y, b, oe, by, ns, me) = bound B seen M o (both_l (is_bound B seen M o) (pattern_arguments B (with_seen o seen) S) e) in
      let (ks, kt) = kb y by in
      let m' : HasType Σ C (eta_long b (variable y)) A1 = subst (λ X. HasType Σ C X A1) me m in
      let (Y, g) = eta_at_type Σ ok b C y nil A1 m' in
      let (f, yw) = eta_spine Σ ok b C y nil Y A1 c g t1 m' in
      let q1 : skeleton A1 ≡ s1 = cc in
      let q2 : skeleton A2 ≡ s2 = cc in
      let sy : SkeletonAt Δ y s1 = subst (λ x. ImageSkeleton (constant_skeletons Σ) Δ x s1) ks (w y s1 (subst (SkeletonAt (context_skeletons C) y) (ap skeleton yw ∙ q1) (variable_has_skeleton C y Y g))) in
      let es : substitute reduce σ M ≡ eta_long b (variable y) = ap (substitute reduce σ) me ∙ substitute_eta_expand σ b (variable y) (variable y) nil ks in
      let et : substitute reduce τ M ≡ eta_long b (variable y) = ap (substitute reduce τ) me ∙ substitute_eta_expand τ b (variable y) (variable y) nil kt in
      let fs : SameForm b s1 = subst (SameForm b) q1 f in
      let ev : reduce (arrow s1 s2) (lambda N) (app (substitute reduce σ M) (substitute_spine reduce σ S)) ≡ reduce s2 (rename (at_variable y) N) (substitute_spine reduce σ S) = reduction_beta s1 s2 N (substitute reduce σ M) (substitute_spine reduce σ S) ∙ ap (λ X. reduce s2 (substitute reduce (single s1 X) N) (substitute_spine reduce σ S)) es ∙ ap (λ X. reduce s2 X (substitute_spine reduce σ S)) (argument Δ s1 s2 b y N n sy fs) in
      let ev' : reduce (arrow s1 s2) (lambda N') (app (substitute reduce τ M) (substitute_spine reduce τ S)) ≡ reduce s2 (rename (at_variable y) N') (substitute_spine reduce τ S) = reduction_beta s1 s2 N' (substitute reduce τ M) (substitute_spine reduce τ S) ∙ ap (λ X. reduce s2 (substitute reduce (single s1 X) N') (substitute_spine reduce τ S)) et ∙ ap (λ X. reduce s2 X (substitute_spine reduce τ S)) (argument Δ s1 s2 b y N' n' sy fs) in
      let k : TermSkeleton (constant_skeletons Σ) Δ (rename (at_variable y) N) s2 = renaming_keeps_skeletons (constant_skeletons Σ) (s1 ∷ Δ) Δ (at_variable y) N s2 (into y s1 sy) n in
      let k' : TermSkeleton (constant_skeletons Σ) Δ (rename (at_variable y) N') s2 = renaming_keeps_skeletons (constant_skeletons Σ) (s1 ∷ Δ) Δ (at_variable y) N' s2 (into y s1 sy) n' in
      let ih : rename (at_variable y) N ≡ rename (at_variable y) N' = pattern_same B (with_variable y V) C Δ σ τ (with_seen o seen) S (instantiate_type A1 M A2) Z s2 (rename (at_variable y) N) (rename (at_variable y) N') c (instance_is_type Σ ok C A1 M A2 c t1 t2 m) w kb s (both_r (is_bound B seen M o) (pattern_arguments B (with_seen o seen) S) e) (skeleton_substituted reduce (single (skeleton A1) M) A2 ∙ q2) k k' (moved_in y V N u) (moved_in y V N' u') (λ i v b h. later p y i v b (subst (λ z. is_in i (with_seen z seen) ≡ false) oe h)) (sym ev ∙ r ∙ ev') in
      let free : V y ≡ true → ⊥ = λ v. p y v by ns in
      ap lambda (sym (back_term y V N free u) ∙ ap (rename (back y)) ih ∙ back_term y V N' free u')
    where
      into : (k : ℕ) (s1 : Skeleton) → SkeletonAt Δ k s1 → (i : ℕ) (t : Skeleton) → SkeletonAt (s1 ∷ Δ) i t → SkeletonAt Δ (at_variable k i) t
      into k s1 g zero t e = subst (SkeletonAt Δ k) e g
      into k s1 g (suc i) t e = e

      split : (b v s : Bool) → either b v ≡ true → either b s ≡ false → (v ≡ true) × (s ≡ false)
      split true v s e f = absurd cc
      split false v s e f = (e, f)

      later : ((i : ℕ) → V i ≡ true → B i ≡ true → is_in i seen ≡ false → ⊥) → (y i : ℕ) → with_variable y V i ≡ true → B i ≡ true → is_in i (y ∷ seen) ≡ false → ⊥
      later p y i v b h = let (v', h') = split (same_number i y) (V i) (is_in i seen) v h in p i v' b h'

  one : (Γ : List Skeleton) (i : ℕ) (s t : Skeleton) → SkeletonAt Γ i s → SkeletonAt Γ i t → s ≡ t
  one [] i s t g h = absurd g
  one (r ∷ Γ) zero s t g h = sym g ∙ h
  one (r ∷ Γ) (suc i) s t g h = one Γ i s t g h

  mutual
    -- The lemma
    pub strict_same : (B F V : ℕ → Bool) (C : List LfType) (Δ : List Skeleton) (σ τ : ℕ → Image) (x : ℕ) (a : Skeleton) (N N' : Term) (M : Term) (P : LfType) → IsContext Σ C → IsType Σ C P → SubstitutionBySkeletons (constant_skeletons Σ) (context_skeletons C) Δ σ → SubstitutionBySkeletons (constant_skeletons Σ) (context_skeletons C) Δ τ → KeptSame B σ τ → KeptAlike F σ τ → Apart V B → σ x ≡ put a N → τ x ≡ put a N' → Uses V N → Uses V N' → SkeletonAt (context_skeletons C) x a → HasType Σ C M P → strict B F x M ≡ true → substitute reduce σ M ≡ substitute reduce τ M → N ≡ N'
    strict_same B F V C Δ σ τ x a N N' (lambda M) (pi A1 P) c (t1, t2) w w' kb kf p q q' u u' g m e r = unsuc N N' (strict_same (under B) (hide F) (hide V) (A1 ∷ C) (skeleton A1 ∷ Δ) (lift σ) (lift τ) (suc x) a (rename suc N) (rename suc N') M P (c, t1) t2 (lift_by_skeletons (constant_skeletons Σ) (skeleton A1) (context_skeletons C) Δ σ w) (lift_by_skeletons (constant_skeletons Σ) (skeleton A1) (context_skeletons C) Δ τ w') (same_lift B σ τ kb) (alike_lift F σ τ kf) (apart_lift V B p) (ap (rename_image suc) q) (ap (rename_image suc) q') (uses_renamed V (hide V) suc N (λ i v. v) u) (uses_renamed V (hide V) suc N' (λ i v. v) u') g m e (lam_inj r))
    strict_same B F V C Δ σ τ x a N N' (lambda M) (atom d T) c t w w' kb kf p q q' u u' g m e r = absurd m
    strict_same B F V C Δ σ τ x a N N' (root h S) (pi A1 P) c t w w' kb kf p q q' u u' g m e r = absurd m
    strict_same B F V C Δ σ τ x a N N' (root (constant d) S) (atom b T) c t w w' kb kf p q q' u u' g (A, k, s) e r = strict_spine_same B F V C Δ σ τ x a N N' S A (atom b T) c (constant_type Σ ok C d A k) w w' kb kf p q q' u u' g s e (root_inj r)
    strict_same B F V C Δ σ τ x a N N' (root (metavariable d) S) (atom b T) c t w w' kb kf p q q' u u' g (A, k, s) e r = absurd k
    strict_same B F V C Δ σ τ x a N N' (root (variable j) S) (atom b T) c t w w' kb kf p q q' u u' g (A, k, s) e r = by (either_cases (both (same_number j x) (pattern_arguments B [] S)) (both (either (B j) (F j)) (strict_spine B F x S)) e) (λ f h. strict_spine_same B F V C Δ σ τ x a N N' S A (atom b T) c (declared_is_type Σ ok C j A c k) w w' kb kf p q q' u u' g s f h)
      where
        kept_at : (B j ≡ true) ⊎ (F j ≡ true) → (i : ℕ) × (σ j ≡ keep i) × (τ j ≡ keep i)
        kept_at (inl z) = let (h, k) = kb j z in (j, h, k)
        kept_at (inr z) = kf j z

        typed : (ρ : ℕ → Image) (K : Term) → SubstitutionBySkeletons (constant_skeletons Σ) (context_skeletons C) Δ ρ → ρ x ≡ put a K → TermSkeleton (constant_skeletons Σ) Δ K a
        typed ρ K v z = (subst (λ y. ImageSkeleton (constant_skeletons Σ) Δ y a) z (v x a g)).1

        by : (both (same_number j x) (pattern_arguments B [] S) ≡ true) ⊎ (both (either (B j) (F j)) (strict_spine B F x S) ≡ true) → (strict_spine B F x S ≡ true → substitute_spine reduce σ S ≡ substitute_spine reduce τ S → N ≡ N') → N ≡ N'
        by (inl z) f =
            let jx : j ≡ x = number_equal j x (both_l (same_number j x) (pattern_arguments B [] S) z) in
            let sa : skeleton A ≡ a = one (context_skeletons C) x (skeleton A) a (subst (λ i. SkeletonAt (context_skeletons C) i (skeleton A)) jx (variable_has_skeleton C j A k)) g in
            let l : apply_image reduce (σ j) (substitute_spine reduce σ S) ≡ reduce a N (substitute_spine reduce σ S) = ap (λ y. apply_image reduce y (substitute_spine reduce σ S)) (ap σ jx ∙ q) in
            let l' : apply_image reduce (τ j) (substitute_spine reduce τ S) ≡ reduce a N' (substitute_spine reduce τ S) = ap (λ y. apply_image reduce y (substitute_spine reduce τ S)) (ap τ jx ∙ q') in
            pattern_same B V C Δ σ τ [] S A (atom b T) a N N' c (declared_is_type Σ ok C j A c k) w kb s (both_r (same_number j x) (pattern_arguments B [] S) z) sa (typed σ N w q) (typed τ N' w' q') u u' (λ i v h y. p i v h) (sym l ∙ r ∙ l')
        by (inr z) f =
            let (i, h, h') = kept_at (either_cases (B j) (F j) (both_l (either (B j) (F j)) (strict_spine B F x S) z)) in
            let l : apply_image reduce (σ j) (substitute_spine reduce σ S) ≡ root (variable i) (substitute_spine reduce σ S) = ap (λ y. apply_image reduce y (substitute_spine reduce σ S)) h in
            let l' : apply_image reduce (τ j) (substitute_spine reduce τ S) ≡ root (variable i) (substitute_spine reduce τ S) = ap (λ y. apply_image reduce y (substitute_spine reduce τ S)) h' in
            f (both_r (either (B j) (F j)) (strict_spine B F x S) z) (root_inj (sym l ∙ r ∙ l'))

    pub strict_spine_same : (B F V : ℕ → Bool) (C : List LfType) (Δ : List Skeleton) (σ τ : ℕ → Image) (x : ℕ) (a : Skeleton) (N N' : Term) (S : Spine) (A Z : LfType) → IsContext Σ C → IsType Σ C A → SubstitutionBySkeletons (constant_skeletons Σ) (context_skeletons C) Δ σ → SubstitutionBySkeletons (constant_skeletons Σ) (context_skeletons C) Δ τ → KeptSame B σ τ → KeptAlike F σ τ → Apart V B → σ x ≡ put a N → τ x ≡ put a N' → Uses V N → Uses V N' → SkeletonAt (context_skeletons C) x a → SpineType Σ C S A Z → strict_spine B F x S ≡ true → substitute_spine reduce σ S ≡ substitute_spine reduce τ S → N ≡ N'
    strict_spine_same B F V C Δ σ τ x a N N' nil A Z c t w w' kb kf p q q' u u' g s e r = absurd cc
    strict_spine_same B F V C Δ σ τ x a N N' (app M S) (atom b T) Z c t w w' kb kf p q q' u u' g s e r = absurd s
    strict_spine_same B F V C Δ σ τ x a N N' (app M S) (pi A1 A2) Z c (t1, t2) w w' kb kf p q q' u u' g (m, s) e r = by (either_cases (strict B F x M) (strict_spine B F x S) e) (λ z. strict_same B F V C Δ σ τ x a N N' M A1 c t1 w w' kb kf p q q' u u' g m z (app_first r)) (λ z. strict_spine_same B F V C Δ σ τ x a N N' S (instantiate_type A1 M A2) Z c (instance_is_type Σ ok C A1 M A2 c t1 t2 m) w w' kb kf p q q' u u' g s z (app_rest r))
      where
        by : (strict B F x M ≡ true) ⊎ (strict_spine B F x S ≡ true) → (strict B F x M ≡ true → N ≡ N') → (strict_spine B F x S ≡ true → N ≡ N') → N ≡ N'
        by (inl z) f h = f z
        by (inr z) f h = h z

  -- at the marked places of a family's arguments: equal places give equal values
  pub determined : (m : List Bool) (F : ℕ → Bool) (C : List LfType) (Δ : List Skeleton) (σ τ : ℕ → Image) (x : ℕ) (a : Skeleton) (N N' : Term) (S : Spine) (K : Kind) → IsContext Σ C → IsKind Σ C K → SubstitutionBySkeletons (constant_skeletons Σ) (context_skeletons C) Δ σ → SubstitutionBySkeletons (constant_skeletons Σ) (context_skeletons C) Δ τ → KeptAlike F σ τ → σ x ≡ put a N → τ x ≡ put a N' → SkeletonAt (context_skeletons C) x a → SpineFitsKind Σ C S K → strict_at m nothing F x S ≡ true → SamePlaces m (substitute_spine reduce σ S) (substitute_spine reduce τ S) → N ≡ N'
  determined [] F C Δ σ τ x a N N' S K c t w w' kf q q' g s e r = absurd cc
  determined (b ∷ m) F C Δ σ τ x a N N' nil K c t w w' kf q q' g s e r = absurd cc
  determined (b ∷ m) F C Δ σ τ x a N N' (app M S) star c t w w' kf q q' g s e r = absurd s
  determined (false ∷ m) F C Δ σ τ x a N N' (app M S) (kind_pi A K) c (t1, t2) w w' kf q q' g (h, s) e r = determined m F C Δ σ τ x a N N' S (instantiate_kind A M K) c (substitution_keeps_kinds Σ ok (A ∷ C) C (single (skeleton A) M) K (single_substitution_typed Σ ok C A M (skeleton_context_of Σ ok C c) (type_by_skeletons Σ C A t1) h) t2) w w' kf q q' g s e r
  determined (true ∷ m) F C Δ σ τ x a N N' (app M S) (kind_pi A K) c (t1, t2) w w' kf q q' g (h, s) e (r1, r2) = by (either_cases (strict nothing F x M) (strict_at m nothing F x S) e) (λ z. strict_same nothing F everything C Δ σ τ x a N N' M A c t1 w w' (λ i k. absurd cc) kf (λ i v k. cc) q q' (uses_all everything N (λ i. refl)) (uses_all everything N' (λ i. refl)) g h z r1) (λ z. determined m F C Δ σ τ x a N N' S (instantiate_kind A M K) c (substitution_keeps_kinds Σ ok (A ∷ C) C (single (skeleton A) M) K (single_substitution_typed Σ ok C A M (skeleton_context_of Σ ok C c) (type_by_skeletons Σ C A t1) h) t2) w w' kf q q' g s z r2)
    where
      by : (strict nothing F x M ≡ true) ⊎ (strict_at m nothing F x S ≡ true) → (strict nothing F x M ≡ true → N ≡ N') → (strict_at m nothing F x S ≡ true → N ≡ N') → N ≡ N'
      by (inl z) f h = f z
      by (inr z) f h = h z
