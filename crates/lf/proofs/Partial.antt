-- The substitution lemma for values of some of the variables: what uses no others keeps its type.
--
-- The variables without a value stand for variables outside the context, of which only the skeletons P are known.
use Rattle.std.proofs.Common.{◌≡◌, ℕ, zero, suc, List, [], ◌∷◌, Some, refl, sym, ap, ◌∙◌, subst}
use Rattle.lf.specs.Syntax.{Head, constant, variable, metavariable, Term, Spine, lambda, root, nil, app, LfType, Kind, pi, atom, kind_pi, star, Skeleton, base, arrow, skeleton, kind_skeleton, weaken}
use Rattle.lf.specs.Substitution.{Image, keep, put, rename_image, lift, single, apply_image, substitute, substitute_spine, substitute_type, substitute_kind, reduce}
use Rattle.lf.specs.SkeletonTyping.{SkeletonAt, HeadSkeleton, TermSkeleton, SpineSkeleton, TypeBySkeletons, KindBySkeletons, ImageSkeleton, SubstitutionBySkeletons}
use Rattle.std.specs.Prelude.{Bool, true}
use Rattle.lf.specs.Variables.{under, Uses, UsesSpine, UsesType}
use Rattle.lf.specs.Variables.{everything}
use Rattle.lf.specs.Typing.{Signature, TypeAt, HeadHasType, instantiate_type, instantiate_kind, HasType, SpineType, SpineFitsKind, IsType, IsKind, IsContext, IsSignature, ImageHasType}
use Rattle.lf.proofs.Renaming.{OnPut, Puts, Puts-lift, Puts-single, OnPut-all, reduction_beta}
use Rattle.lf.proofs.TypeLaws.{skeleton_renamed, skeleton_substituted, lifted_substitution_weakened_type, substitute_weakened_type}
use Rattle.lf.specs.Skeletons.{type_skeleton, family_skeleton, constant_skeletons, family_skeletons}
use Rattle.lf.proofs.ToSkeletons.{kind_skeleton_substituted}
use Rattle.lf.proofs.Closed.{closed_type_substituted, closed_kind_substituted}
use Rattle.lf.proofs.SkeletonTyping.{lift_by_skeletons, single_by_skeletons}
use Rattle.lf.proofs.Substitution.{constant_type, family_kind}
use Rattle.lf.proofs.Weakening.{weakening_renames, renaming_keeps_typing, declared_is_type}
use Rattle.lf.proofs.SkeletonTypes.{renaming_keeps_types_by_skeletons, substitution_keeps_types_by_skeletons, single_type_by_skeletons, single_kind_by_skeletons, substitute_single_type, substitute_single_kind}

dom : Skeleton → Skeleton
dom (arrow a b) = a
dom (base c) = base c

cod : Skeleton → Skeleton
cod (arrow a b) = b
cod (base c) = base c

arrow_dom : {a b c d : Skeleton} → arrow a b ≡ arrow c d → a ≡ c
unfolding dom
arrow_dom e = ap dom e

arrow_cod : {a b c d : Skeleton} → arrow a b ≡ arrow c d → b ≡ d
unfolding cod
arrow_cod e = ap cod e

arrow≢base : {a b : Skeleton} {c : ℕ} → arrow a b ≡ base c → ⊥
arrow≢base e = cc

-- the skeletons of a context, and outside it P
abbrev pub skeletons_beside : List Skeleton → List LfType → List Skeleton
skeletons_beside P [] = P
skeletons_beside P (A ∷ G) = skeleton A ∷ skeletons_beside P G

pub variable_has_skeleton_beside : (P : List Skeleton) (G : List LfType) (i : ℕ) (A : LfType) → TypeAt G i A → SkeletonAt (skeletons_beside P G) i (skeleton A)
variable_has_skeleton_beside P [] i A g = absurd g
variable_has_skeleton_beside P (B ∷ G) zero A e = sym (ap skeleton e ∙ skeleton_renamed suc B)
variable_has_skeleton_beside P (B ∷ G) (suc i) A (C, g, e) = subst (SkeletonAt (skeletons_beside P G) i) (sym (ap skeleton e ∙ skeleton_renamed suc C)) (variable_has_skeleton_beside P G i C g)

module _ (Σ : Signature) (P : List Skeleton) where
  HeadHasType-has_skeleton : (G : List LfType) (h : Head) (A : LfType) → HeadHasType Σ G h A → HeadSkeleton (constant_skeletons Σ) (skeletons_beside P G) h (skeleton A)
  HeadHasType-has_skeleton G (constant c) A e = ap type_skeleton e
  HeadHasType-has_skeleton G (metavariable m) A e = absurd e
  HeadHasType-has_skeleton G (variable i) A g = variable_has_skeleton_beside P G i A g

  mutual
    pub typed_has_skeleton_beside : (G : List LfType) (M : Term) (A : LfType) → HasType Σ G M A → TermSkeleton (constant_skeletons Σ) (skeletons_beside P G) M (skeleton A)
    typed_has_skeleton_beside G (lambda M) (pi A B) m = typed_has_skeleton_beside (A ∷ G) M B m
    typed_has_skeleton_beside G (lambda M) (atom a T) m = m
    typed_has_skeleton_beside G (root h S) (pi A B) m = m
    typed_has_skeleton_beside G (root h S) (atom a T) (A, g, s) = (skeleton A, HeadHasType-has_skeleton G h A g, typed_spine_has_skeleton_beside G S A (atom a T) s)

    pub typed_spine_has_skeleton_beside : (G : List LfType) (S : Spine) (A C : LfType) → SpineType Σ G S A C → SpineSkeleton (constant_skeletons Σ) (skeletons_beside P G) S (skeleton A) (skeleton C)
    typed_spine_has_skeleton_beside G nil A C e = ap skeleton e
    typed_spine_has_skeleton_beside G (app M S) (pi A B) C (m, s) = (typed_has_skeleton_beside G M A m, subst (λ t. SpineSkeleton (constant_skeletons Σ) (skeletons_beside P G) S t (skeleton C)) (skeleton_substituted reduce (single (skeleton A) M) B) (typed_spine_has_skeleton_beside G S (instantiate_type A M B) C s))
    typed_spine_has_skeleton_beside G (app M S) (atom a T) C s = absurd s

  pub kind_spine_has_skeleton_beside : (a : ℕ) (G : List LfType) (S : Spine) (K : Kind) → SpineFitsKind Σ G S K → SpineSkeleton (constant_skeletons Σ) (skeletons_beside P G) S (kind_skeleton a K) (base a)
  kind_spine_has_skeleton_beside a G nil (kind_pi A K) s = absurd s
  kind_spine_has_skeleton_beside a G nil star s = refl
  kind_spine_has_skeleton_beside a G (app M S) (kind_pi A K) (m, s) = (typed_has_skeleton_beside G M A m, subst (λ t. SpineSkeleton (constant_skeletons Σ) (skeletons_beside P G) S t (base a)) (kind_skeleton_substituted a reduce (single (skeleton A) M) K) (kind_spine_has_skeleton_beside a G S (instantiate_kind A M K) s))
  kind_spine_has_skeleton_beside a G (app M S) star s = absurd s

  pub type_by_skeletons_beside : (G : List LfType) (A : LfType) → IsType Σ G A → TypeBySkeletons (family_skeletons Σ) (constant_skeletons Σ) (skeletons_beside P G) A
  type_by_skeletons_beside G (pi A B) (a, b) = (type_by_skeletons_beside G A a, type_by_skeletons_beside (A ∷ G) B b)
  type_by_skeletons_beside G (atom a S) (K, e, s) = (kind_skeleton a K, ap (family_skeleton a) e, kind_spine_has_skeleton_beside a G S K s)

  pub kind_by_skeletons_beside : (G : List LfType) (K : Kind) → IsKind Σ G K → KindBySkeletons (family_skeletons Σ) (constant_skeletons Σ) (skeletons_beside P G) K
  kind_by_skeletons_beside G (kind_pi A K) (a, k) = (type_by_skeletons_beside G A a, kind_by_skeletons_beside (A ∷ G) K k)
  kind_by_skeletons_beside G star k = k

pub everywhere-under : (U : ℕ → Bool) → ((i : ℕ) → U i ≡ true) → (i : ℕ) → under U i ≡ true
everywhere-under U h zero = refl
everywhere-under U h (suc i) = h i

mutual
  pub uses_all : (U : ℕ → Bool) (M : Term) → ((i : ℕ) → U i ≡ true) → Uses U M
  uses_all U (lambda M) h = uses_all (under U) M (everywhere-under U h)
  uses_all U (root (constant c) S) h = uses_spine_all U S h
  uses_all U (root (metavariable c) S) h = uses_spine_all U S h
  uses_all U (root (variable i) S) h = (h i, uses_spine_all U S h)

  pub uses_spine_all : (U : ℕ → Bool) (S : Spine) → ((i : ℕ) → U i ≡ true) → UsesSpine U S
  uses_spine_all U nil h = tt
  uses_spine_all U (app M S) h = (uses_all U M h, uses_spine_all U S h)

pub uses_type_all : (U : ℕ → Bool) (A : LfType) → ((i : ℕ) → U i ≡ true) → UsesType U A
uses_type_all U (pi A B) h = (uses_type_all U A h, uses_type_all (under U) B (everywhere-under U h))
uses_type_all U (atom a S) h = uses_spine_all U S h

module _ (Σ : Signature) (ok : IsSignature Σ) where
  abbrev pub SkeletonTypeBeside : List Skeleton → List LfType → LfType → Type 0
  SkeletonTypeBeside P G A = TypeBySkeletons (family_skeletons Σ) (constant_skeletons Σ) (skeletons_beside P G) A

  -- the types of a context are typed by skeletons
  abbrev pub SkeletonContextBeside : List Skeleton → List LfType → Type 0
  SkeletonContextBeside P G = (i : ℕ) (A : LfType) → TypeAt G i A → SkeletonTypeBeside P G A

  SkeletonTypeBeside-weakened : (P : List Skeleton) (G : List LfType) (B A : LfType) → SkeletonTypeBeside P G A → SkeletonTypeBeside P (B ∷ G) (weaken A)
  SkeletonTypeBeside-weakened P G B A a = renaming_keeps_types_by_skeletons (family_skeletons Σ) (constant_skeletons Σ) (skeletons_beside P G) (skeleton B ∷ skeletons_beside P G) suc A (λ i t g. g) a

  pub skeleton_context_push_beside : (P : List Skeleton) (G : List LfType) (B : LfType) → SkeletonContextBeside P G → SkeletonTypeBeside P G B → SkeletonContextBeside P (B ∷ G)
  skeleton_context_push_beside P G B g b zero A e = subst (SkeletonTypeBeside P (B ∷ G)) (sym e) (SkeletonTypeBeside-weakened P G B B b)
  skeleton_context_push_beside P G B g b (suc i) A (C, h, e) = subst (SkeletonTypeBeside P (B ∷ G)) (sym e) (SkeletonTypeBeside-weakened P G B C (g i C h))

  pub skeleton_context_of_beside : (P : List Skeleton) (G : List LfType) → IsContext Σ G → SkeletonContextBeside P G
  skeleton_context_of_beside P G c i A g = type_by_skeletons_beside Σ P G A (declared_is_type Σ ok G i A c g)

  -- values of the variables U of C, in D; Q and P are outside
  pub record PartialSubstitution (Q P : List Skeleton) (U : ℕ → Bool) (C D : List LfType) (σ : ℕ → Image) : Type 0 where
    pub typed : (i : ℕ) (A : LfType) → TypeAt C i A → U i ≡ true → ImageHasType Σ D (σ i) (substitute_type reduce σ A)
    pub sk : SubstitutionBySkeletons (constant_skeletons Σ) (skeletons_beside Q C) (skeletons_beside P D) σ
    pub source_skeletons : SkeletonContextBeside Q C
    pub target_skeletons : SkeletonContextBeside P D

  pub ImageHasType-has_skeleton : (P : List Skeleton) (D : List LfType) (x : Image) (A : LfType) → ImageHasType Σ D x A → ImageSkeleton (constant_skeletons Σ) (skeletons_beside P D) x (skeleton A)
  ImageHasType-has_skeleton P D (keep j) A g = variable_has_skeleton_beside P D j A g
  ImageHasType-has_skeleton P D (put a N) A (e, n) = (sym e, subst (TermSkeleton (constant_skeletons Σ) (skeletons_beside P D) N) e (typed_has_skeleton_beside Σ P D N A n))

  SkeletonTypeBeside-substituted : (Q P : List Skeleton) (G D : List LfType) (σ : ℕ → Image) (A : LfType) → SubstitutionBySkeletons (constant_skeletons Σ) (skeletons_beside Q G) (skeletons_beside P D) σ → SkeletonTypeBeside Q G A → SkeletonTypeBeside P D (substitute_type reduce σ A)
  SkeletonTypeBeside-substituted Q P G D σ A w t = substitution_keeps_types_by_skeletons (family_skeletons Σ) (constant_skeletons Σ) (skeletons_beside Q G) (skeletons_beside P D) σ A w t

  pub ImageHasType-weakened : (D : List LfType) (B : LfType) (x : Image) (A : LfType) → ImageHasType Σ D x A → ImageHasType Σ (B ∷ D) (rename_image suc x) (weaken A)
  ImageHasType-weakened D B (keep j) A g = (A, g, refl)
  ImageHasType-weakened D B (put a N) A (e, n) = (skeleton_renamed suc A ∙ e, renaming_keeps_typing Σ ok D (B ∷ D) suc N A (weakening_renames D B) n)

  pub typed-lift : (U : ℕ → Bool) (G D : List LfType) (σ : ℕ → Image) (B : LfType) → ((i : ℕ) (A : LfType) → TypeAt G i A → U i ≡ true → ImageHasType Σ D (σ i) (substitute_type reduce σ A)) → (i : ℕ) (A : LfType) → TypeAt (B ∷ G) i A → under U i ≡ true → ImageHasType Σ (substitute_type reduce σ B ∷ D) (lift σ i) (substitute_type reduce (lift σ) A)
  typed-lift U G D σ B w zero A e u = ap (substitute_type reduce (lift σ)) e ∙ lifted_substitution_weakened_type σ B
  typed-lift U G D σ B w (suc i) A (C, g, e) u = subst (ImageHasType Σ (substitute_type reduce σ B ∷ D) (rename_image suc (σ i))) (sym (ap (substitute_type reduce (lift σ)) e ∙ lifted_substitution_weakened_type σ C)) (ImageHasType-weakened D (substitute_type reduce σ B) (σ i) (substitute_type reduce σ C) (w i C g u))

  pub partial_lift : (Q P : List Skeleton) (U : ℕ → Bool) (G D : List LfType) (σ : ℕ → Image) (B : LfType) → PartialSubstitution Q P U G D σ → SkeletonTypeBeside Q G B → PartialSubstitution Q P (under U) (B ∷ G) (substitute_type reduce σ B ∷ D) (lift σ)
  partial_lift Q P U G D σ B w b = record {
    typed = typed-lift U G D σ B w.typed;
    sk = subst (λ t. SubstitutionBySkeletons (constant_skeletons Σ) (skeleton B ∷ skeletons_beside Q G) (t ∷ skeletons_beside P D) (lift σ)) (sym (skeleton_substituted reduce σ B)) (lift_by_skeletons (constant_skeletons Σ) (skeleton B) (skeletons_beside Q G) (skeletons_beside P D) σ w.sk);
    source_skeletons = skeleton_context_push_beside Q G B w.source_skeletons b;
    target_skeletons = skeleton_context_push_beside P D (substitute_type reduce σ B) w.target_skeletons (SkeletonTypeBeside-substituted Q P G D σ B w.sk b);
  }

  typed-single : (U : ℕ → Bool) (G : List LfType) (B : LfType) (N : Term) → HasType Σ G N B → (i : ℕ) (A : LfType) → TypeAt (B ∷ G) i A → U i ≡ true → ImageHasType Σ G (single (skeleton B) N i) (substitute_type reduce (single (skeleton B) N) A)
  typed-single U G B N n zero A e u =
      let q : substitute_type reduce (single (skeleton B) N) A ≡ B = ap (substitute_type reduce (single (skeleton B) N)) e ∙ substitute_weakened_type reduce (skeleton B) N B in
      (ap skeleton q, subst (HasType Σ G N) (sym q) n)
  typed-single U G B N n (suc i) A (C, g, e) u = subst (TypeAt G i) (sym (ap (substitute_type reduce (single (skeleton B) N)) e ∙ substitute_weakened_type reduce (skeleton B) N C)) g

  partial_single : (P : List Skeleton) (G : List LfType) (B : LfType) (N : Term) → SkeletonContextBeside P G → SkeletonTypeBeside P G B → HasType Σ G N B → PartialSubstitution P P everything (B ∷ G) G (single (skeleton B) N)
  partial_single P G B N g b n = record { typed = typed-single everything G B N n; sk = single_by_skeletons (constant_skeletons Σ) (skeleton B) (skeletons_beside P G) N (typed_has_skeleton_beside Σ P G N B n); source_skeletons = skeleton_context_push_beside P G B g b; target_skeletons = g }

  -- a substitution goes through the instance of a type, or kind
  pub substitute_instance : (Q P : List Skeleton) (G D : List LfType) (σ : ℕ → Image) (A : LfType) (M : Term) (B : LfType) → SubstitutionBySkeletons (constant_skeletons Σ) (skeletons_beside Q G) (skeletons_beside P D) σ → HasType Σ G M A → SkeletonTypeBeside Q (A ∷ G) B → substitute_type reduce σ (instantiate_type A M B) ≡ instantiate_type (substitute_type reduce σ A) (substitute reduce σ M) (substitute_type reduce (lift σ) B)
  substitute_instance Q P G D σ A M B w m b = substitute_single_type (family_skeletons Σ) (constant_skeletons Σ) (skeletons_beside Q G) (skeletons_beside P D) σ (skeleton A) M B w (typed_has_skeleton_beside Σ Q G M A m) b ∙ ap (λ t. substitute_type reduce (single t (substitute reduce σ M)) (substitute_type reduce (lift σ) B)) (sym (skeleton_substituted reduce σ A))

  pub substitute_kind_instance : (Q P : List Skeleton) (G D : List LfType) (σ : ℕ → Image) (A : LfType) (M : Term) (K : Kind) → SubstitutionBySkeletons (constant_skeletons Σ) (skeletons_beside Q G) (skeletons_beside P D) σ → HasType Σ G M A → KindBySkeletons (family_skeletons Σ) (constant_skeletons Σ) (skeletons_beside Q (A ∷ G)) K → substitute_kind reduce σ (instantiate_kind A M K) ≡ instantiate_kind (substitute_type reduce σ A) (substitute reduce σ M) (substitute_kind reduce (lift σ) K)
  substitute_kind_instance Q P G D σ A M K w m k = substitute_single_kind (family_skeletons Σ) (constant_skeletons Σ) (skeletons_beside Q G) (skeletons_beside P D) σ (skeleton A) M K w (typed_has_skeleton_beside Σ Q G M A m) k ∙ ap (λ t. substitute_kind reduce (single t (substitute reduce σ M)) (substitute_kind reduce (lift σ) K)) (sym (skeleton_substituted reduce σ A))

  pub SkeletonTypeBeside-instance : (P : List Skeleton) (G : List LfType) (A : LfType) (M : Term) (B : LfType) → HasType Σ G M A → SkeletonTypeBeside P (A ∷ G) B → SkeletonTypeBeside P G (instantiate_type A M B)
  SkeletonTypeBeside-instance P G A M B m b = single_type_by_skeletons (family_skeletons Σ) (constant_skeletons Σ) (skeleton A) (skeletons_beside P G) M B (typed_has_skeleton_beside Σ P G M A m) b

  module _ (P : List Skeleton) where
    -- what `reduce` is to do at a skeleton
    abbrev pub ReductionTypedBeside : Skeleton → Type 0
    ReductionTypedBeside a = (D : List LfType) (N : Term) (S : Spine) (A C : LfType) → skeleton A ≡ a → SkeletonContextBeside P D → SkeletonTypeBeside P D A → HasType Σ D N A → SpineType Σ D S A C → HasType Σ D (reduce a N S) C

    HasType-apply_image : (D : List LfType) (x : Image) (S : Spine) (A : LfType) (b : ℕ) (T : Spine) → OnPut ReductionTypedBeside x → SkeletonContextBeside P D → SkeletonTypeBeside P D A → ImageHasType Σ D x A → SpineType Σ D S A (atom b T) → HasType Σ D (apply_image reduce x S) (atom b T)
    HasType-apply_image D (keep j) S A b T k d t g s = (A, g, s)
    HasType-apply_image D (put a N) S A b T k d t (e, n) s = k D N S A (atom b T) e d t n s

    mutual
      HasType-part' : (Q : List Skeleton) (U : ℕ → Bool) (G D : List LfType) (σ : ℕ → Image) (M : Term) (A : LfType) → Puts ReductionTypedBeside σ → PartialSubstitution Q P U G D σ → SkeletonTypeBeside Q G A → Uses U M → HasType Σ G M A → HasType Σ D (substitute reduce σ M) (substitute_type reduce σ A)
      HasType-part' Q U G D σ (lambda M) (pi A B) k w t u m = HasType-part' Q (under U) (A ∷ G) (substitute_type reduce σ A ∷ D) (lift σ) M B (Puts-lift ReductionTypedBeside σ k) (partial_lift Q P U G D σ A w t.0) t.1 u m
      HasType-part' Q U G D σ (lambda M) (atom b T) k w t u m = absurd m
      HasType-part' Q U G D σ (root h S) (pi A B) k w t u m = absurd m
      HasType-part' Q U G D σ (root (constant c) S) (atom b T) k w t u (A, e, s) = (substitute_type reduce σ A, subst (λ X. Σ.types c ≡ Some X) (sym (closed_type_substituted Σ reduce σ A (ok.types_ok c A e))) e, SpineType-part' Q U G D σ S A (atom b T) k w (type_by_skeletons_beside Σ Q G A (constant_type Σ ok G c A e)) u s)
      HasType-part' Q U G D σ (root (metavariable c) S) (atom b T) k w t u (A, e, s) = absurd e
      HasType-part' Q U G D σ (root (variable i) S) (atom b T) k w t u (A, g, s) = HasType-apply_image D (σ i) (substitute_spine reduce σ S) (substitute_type reduce σ A) b (substitute_spine reduce σ T) (k i) w.target_skeletons (SkeletonTypeBeside-substituted Q P G D σ A w.sk (w.source_skeletons i A g)) (w.typed i A g u.0) (SpineType-part' Q U G D σ S A (atom b T) k w (w.source_skeletons i A g) u.1 s)

      SpineType-part' : (Q : List Skeleton) (U : ℕ → Bool) (G D : List LfType) (σ : ℕ → Image) (S : Spine) (A C : LfType) → Puts ReductionTypedBeside σ → PartialSubstitution Q P U G D σ → SkeletonTypeBeside Q G A → UsesSpine U S → SpineType Σ G S A C → SpineType Σ D (substitute_spine reduce σ S) (substitute_type reduce σ A) (substitute_type reduce σ C)
      SpineType-part' Q U G D σ nil A C k w t u e = ap (substitute_type reduce σ) e
      SpineType-part' Q U G D σ (app M S) (pi A B) C k w t u (m, s) = (HasType-part' Q U G D σ M A k w t.0 u.0 m, subst (λ X. SpineType Σ D (substitute_spine reduce σ S) X (substitute_type reduce σ C)) (substitute_instance Q P G D σ A M B w.sk m t.1) (SpineType-part' Q U G D σ S (instantiate_type A M B) C k w (SkeletonTypeBeside-instance Q G A M B m t.1) u.1 s))
      SpineType-part' Q U G D σ (app M S) (atom b T) C k w t u s = absurd s

    pub reduction_keeps_typing_beside : (a : Skeleton) → ReductionTypedBeside a
    reduction_keeps_typing_beside (base c) D N nil A C e d t n s = subst (HasType Σ D N) s n
    reduction_keeps_typing_beside (base c) D N (app M S) (pi A B) C e d t n s = absurd (arrow≢base e)
    reduction_keeps_typing_beside (base c) D N (app M S) (atom b T) C e d t n s = absurd s
    reduction_keeps_typing_beside (arrow a b) D (root h T) nil A C e d t n s = subst (HasType Σ D (root h T)) s n
    reduction_keeps_typing_beside (arrow a b) D (root h T) (app M S) (pi A B) C e d t n s = absurd n
    reduction_keeps_typing_beside (arrow a b) D (root h T) (app M S) (atom c V) C e d t n s = absurd s
    reduction_keeps_typing_beside (arrow a b) D (lambda N) nil A C e d t n s = subst (HasType Σ D (lambda N)) s n
    reduction_keeps_typing_beside (arrow a b) D (lambda N) (app M S) (atom c V) C e d t n s = absurd s
    reduction_keeps_typing_beside (arrow a b) D (lambda N) (app M S) (pi A B) C e d t n (m, s) =
        let p : skeleton A ≡ a = arrow_dom e in
        let n' : HasType Σ D (substitute reduce (single (skeleton A) M) N) (instantiate_type A M B) = HasType-part' P everything (A ∷ D) D (single (skeleton A) M) N B (Puts-single ReductionTypedBeside (skeleton A) M (subst ReductionTypedBeside (sym p) (reduction_keeps_typing_beside a))) (partial_single P D A M d t.0 m) t.1 (uses_all everything N (λ i. refl)) n in
        subst (λ X. HasType Σ D X C) (ap (λ x. reduce b (substitute reduce (single x M) N) S) p ∙ sym (reduction_beta a b N M S)) (reduction_keeps_typing_beside b D (substitute reduce (single (skeleton A) M) N) S (instantiate_type A M B) C (skeleton_substituted reduce (single (skeleton A) M) B ∙ arrow_cod e) d (SkeletonTypeBeside-instance P D A M B m t.1) n' s)

    -- THE lemma, for terms
    pub partial_substitution_keeps_typing : (Q : List Skeleton) (U : ℕ → Bool) (G D : List LfType) (σ : ℕ → Image) (M : Term) (A : LfType) → PartialSubstitution Q P U G D σ → SkeletonTypeBeside Q G A → Uses U M → HasType Σ G M A → HasType Σ D (substitute reduce σ M) (substitute_type reduce σ A)
    partial_substitution_keeps_typing Q U G D σ M A = HasType-part' Q U G D σ M A (λ i. OnPut-all ReductionTypedBeside reduction_keeps_typing_beside (σ i))

    -- for the arguments of a family
    pub partial_substitution_keeps_kind_spines : (Q : List Skeleton) (U : ℕ → Bool) (G D : List LfType) (σ : ℕ → Image) (S : Spine) (K : Kind) → PartialSubstitution Q P U G D σ → KindBySkeletons (family_skeletons Σ) (constant_skeletons Σ) (skeletons_beside Q G) K → UsesSpine U S → SpineFitsKind Σ G S K → SpineFitsKind Σ D (substitute_spine reduce σ S) (substitute_kind reduce σ K)
    partial_substitution_keeps_kind_spines Q U G D σ nil (kind_pi A K) w t u s = absurd s
    partial_substitution_keeps_kind_spines Q U G D σ nil star w t u s = s
    partial_substitution_keeps_kind_spines Q U G D σ (app M S) (kind_pi A K) w t u (m, s) = (partial_substitution_keeps_typing Q U G D σ M A w t.0 u.0 m, subst (SpineFitsKind Σ D (substitute_spine reduce σ S)) (substitute_kind_instance Q P G D σ A M K w.sk m t.1) (partial_substitution_keeps_kind_spines Q U G D σ S (instantiate_kind A M K) w (single_kind_by_skeletons (family_skeletons Σ) (constant_skeletons Σ) (skeleton A) (skeletons_beside Q G) M K (typed_has_skeleton_beside Σ Q G M A m) t.1) u.1 s))
    partial_substitution_keeps_kind_spines Q U G D σ (app M S) star w t u s = absurd s

    pub partial_substitution_keeps_types : (Q : List Skeleton) (U : ℕ → Bool) (G D : List LfType) (σ : ℕ → Image) (A : LfType) → PartialSubstitution Q P U G D σ → UsesType U A → IsType Σ G A → IsType Σ D (substitute_type reduce σ A)
    partial_substitution_keeps_types Q U G D σ (pi A B) w u (t, b) = (partial_substitution_keeps_types Q U G D σ A w u.0 t, partial_substitution_keeps_types Q (under U) (A ∷ G) (substitute_type reduce σ A ∷ D) (lift σ) B (partial_lift Q P U G D σ A w (type_by_skeletons_beside Σ Q G A t)) u.1 b)
    partial_substitution_keeps_types Q U G D σ (atom c S) w u (K, e, s) = (K, e, subst (SpineFitsKind Σ D (substitute_spine reduce σ S)) (closed_kind_substituted Σ reduce σ K (ok.kinds_ok c K e)) (partial_substitution_keeps_kind_spines Q U G D σ S K w (kind_by_skeletons_beside Σ Q G K (family_kind Σ ok G c K e)) u s))
