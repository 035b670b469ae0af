-- The substitution lemma, whatever skeletons metavariables have: hereditary substitution keeps typing.
use Rattle.std.proofs.Common.{◌≡◌, ℕ, zero, suc, List, [], ◌∷◌, Option, Some, refl, sym, ap, ◌∙◌, subst}
use Rattle.lf.specs.Syntax.{constant, variable, metavariable, Term, Spine, lambda, root, nil, app, LfType, Kind, pi, atom, kind_pi, star, Skeleton, base, arrow, skeleton, weaken}
use Rattle.lf.specs.Substitution.{Image, keep, put, rename_image, lift, single, apply_image, substitute, substitute_spine, substitute_type, substitute_kind, reduce}
use Rattle.lf.specs.SkeletonTyping.{TermSkeleton, TypeBySkeletons, KindBySkeletons, ImageSkeleton, SubstitutionBySkeletons}
use Rattle.lf.specs.Typing.{Signature, TypeAt, instantiate_type, instantiate_kind, HasType, SpineType, SpineFitsKind, IsType, IsKind, IsContext, IsSignature, ImageHasType, IsTypedSubstitution}
use Rattle.lf.proofs.Renaming.{OnPut, Puts, Puts-lift, Puts-single, OnPut-all, reduction_beta}
use Rattle.lf.proofs.TypeLaws.{skeleton_renamed, skeleton_substituted, lifted_substitution_weakened_type, substitute_weakened_type}
use Rattle.lf.specs.Skeletons.{signature_skeletons, family_skeletons, context_skeletons}
use Rattle.lf.proofs.ToSkeletons.{variable_has_skeleton, skeleton_has_variable, typed_has_skeleton_with, type_by_skeletons_with, kind_by_skeletons_with}
use Rattle.lf.proofs.Closed.{closed_type_renamed, closed_kind_renamed, closed_type_substituted, closed_kind_substituted}
use Rattle.lf.proofs.Weakening.{weakening_renames, renaming_keeps_typing, renaming_keeps_types, renaming_keeps_kinds, declared_is_type}
use Rattle.lf.proofs.SkeletonTypes.{renaming_keeps_types_by_skeletons, substitution_keeps_types_by_skeletons, single_type_by_skeletons, single_kind_by_skeletons, substitute_single_type, substitute_single_kind}

dom : Skeleton → Skeleton
dom (arrow a b) = a
dom (base c) = base c

cod : Skeleton → Skeleton
cod (arrow a b) = b
cod (base c) = base c

arrow_dom : {a b c d : Skeleton} → arrow a b ≡ arrow c d → a ≡ c
unfolding dom
arrow_dom e = ap dom e

arrow_cod : {a b c d : Skeleton} → arrow a b ≡ arrow c d → b ≡ d
unfolding cod
arrow_cod e = ap cod e

arrow≢base : {a b : Skeleton} {c : ℕ} → arrow a b ≡ base c → ⊥
arrow≢base e = cc

module _ (Σ : Signature) (ok : IsSignature Σ) where
  -- closed types are types in every context
  pub constant_type : (G : List LfType) (c : ℕ) (A : LfType) → Σ.types c ≡ Some A → IsType Σ G A
  constant_type G c A e = subst (IsType Σ G) (closed_type_renamed Σ (λ i. i) A (ok.types_ok c A e)) (renaming_keeps_types Σ ok [] G (λ i. i) A (λ i B g. absurd g) (ok.types_ok c A e))

  pub family_kind : (G : List LfType) (c : ℕ) (K : Kind) → Σ.kinds c ≡ Some K → IsKind Σ G K
  family_kind G c K e = subst (IsKind Σ G) (closed_kind_renamed Σ (λ i. i) K (ok.kinds_ok c K e)) (renaming_keeps_kinds Σ ok [] G (λ i. i) K (λ i B g. absurd g) (ok.kinds_ok c K e))

module _ (Σ : Signature) (μ : ℕ → Option Skeleton) (ok : IsSignature Σ) where
  abbrev pub SkeletonType : List LfType → LfType → Type 0
  SkeletonType G A = TypeBySkeletons (family_skeletons Σ) (signature_skeletons Σ μ) (context_skeletons G) A

  -- the types of a context are typed by skeletons
  abbrev pub SkeletonContext : List LfType → Type 0
  SkeletonContext G = (i : ℕ) (A : LfType) → TypeAt G i A → SkeletonType G A

  pub SkeletonType-weakened : (G : List LfType) (B A : LfType) → SkeletonType G A → SkeletonType (B ∷ G) (weaken A)
  SkeletonType-weakened G B A a = renaming_keeps_types_by_skeletons (family_skeletons Σ) (signature_skeletons Σ μ) (context_skeletons G) (skeleton B ∷ context_skeletons G) suc A (λ i t g. g) a

  pub skeleton_context_push : (G : List LfType) (B : LfType) → SkeletonContext G → SkeletonType G B → SkeletonContext (B ∷ G)
  skeleton_context_push G B g b zero A e = subst (SkeletonType (B ∷ G)) (sym e) (SkeletonType-weakened G B B b)
  skeleton_context_push G B g b (suc i) A (C, h, e) = subst (SkeletonType (B ∷ G)) (sym e) (SkeletonType-weakened G B C (g i C h))

  pub skeleton_context_of : (G : List LfType) → IsContext Σ G → SkeletonContext G
  skeleton_context_of G c i A g = type_by_skeletons_with Σ μ G A (declared_is_type Σ ok G i A c g)

  pub record TypedSubstitution (G D : List LfType) (σ : ℕ → Image) : Type 0 where
    pub typed : IsTypedSubstitution Σ G D σ
    pub source_skeletons : SkeletonContext G
    pub target_skeletons : SkeletonContext D

  ImageHasType-has_skeleton : (D : List LfType) (x : Image) (A : LfType) → ImageHasType Σ D x A → ImageSkeleton (signature_skeletons Σ μ) (context_skeletons D) x (skeleton A)
  ImageHasType-has_skeleton D (keep j) A g = variable_has_skeleton D j A g
  ImageHasType-has_skeleton D (put a N) A (e, n) = (sym e, subst (TermSkeleton (signature_skeletons Σ μ) (context_skeletons D) N) e (typed_has_skeleton_with Σ μ D N A n))

  pub typed_substitution_by_skeletons : (G D : List LfType) (σ : ℕ → Image) → IsTypedSubstitution Σ G D σ → SubstitutionBySkeletons (signature_skeletons Σ μ) (context_skeletons G) (context_skeletons D) σ
  typed_substitution_by_skeletons G D σ w i t g = let (A, h, e) = skeleton_has_variable G i t g in subst (ImageSkeleton (signature_skeletons Σ μ) (context_skeletons D) (σ i)) (skeleton_substituted reduce σ A ∙ e) (ImageHasType-has_skeleton D (σ i) (substitute_type reduce σ A) (w i A h))

  SkeletonType-substituted : (G D : List LfType) (σ : ℕ → Image) (A : LfType) → TypedSubstitution G D σ → SkeletonType G A → SkeletonType D (substitute_type reduce σ A)
  SkeletonType-substituted G D σ A w t = substitution_keeps_types_by_skeletons (family_skeletons Σ) (signature_skeletons Σ μ) (context_skeletons G) (context_skeletons D) σ A (typed_substitution_by_skeletons G D σ w.typed) t

  ImageHasType-weakened : (D : List LfType) (B : LfType) (x : Image) (A : LfType) → ImageHasType Σ D x A → ImageHasType Σ (B ∷ D) (rename_image suc x) (weaken A)
  ImageHasType-weakened D B (keep j) A g = (A, g, refl)
  ImageHasType-weakened D B (put a N) A (e, n) = (skeleton_renamed suc A ∙ e, renaming_keeps_typing Σ ok D (B ∷ D) suc N A (weakening_renames D B) n)

  typed-lift : (G D : List LfType) (σ : ℕ → Image) (B : LfType) → IsTypedSubstitution Σ G D σ → IsTypedSubstitution Σ (B ∷ G) (substitute_type reduce σ B ∷ D) (lift σ)
  typed-lift G D σ B w zero A e = ap (substitute_type reduce (lift σ)) e ∙ lifted_substitution_weakened_type σ B
  typed-lift G D σ B w (suc i) A (C, g, e) = subst (ImageHasType Σ (substitute_type reduce σ B ∷ D) (rename_image suc (σ i))) (sym (ap (substitute_type reduce (lift σ)) e ∙ lifted_substitution_weakened_type σ C)) (ImageHasType-weakened D (substitute_type reduce σ B) (σ i) (substitute_type reduce σ C) (w i C g))

  pub lifted_substitution_typed : (G D : List LfType) (σ : ℕ → Image) (B : LfType) → TypedSubstitution G D σ → SkeletonType G B → TypedSubstitution (B ∷ G) (substitute_type reduce σ B ∷ D) (lift σ)
  lifted_substitution_typed G D σ B w b = record {
    typed = typed-lift G D σ B w.typed;
    source_skeletons = skeleton_context_push G B w.source_skeletons b;
    target_skeletons = skeleton_context_push D (substitute_type reduce σ B) w.target_skeletons (SkeletonType-substituted G D σ B w b);
  }

  typed-single : (G : List LfType) (B : LfType) (N : Term) → HasType Σ G N B → IsTypedSubstitution Σ (B ∷ G) G (single (skeleton B) N)
  typed-single G B N n zero A e =
      let q : substitute_type reduce (single (skeleton B) N) A ≡ B = ap (substitute_type reduce (single (skeleton B) N)) e ∙ substitute_weakened_type reduce (skeleton B) N B in
      (ap skeleton q, subst (HasType Σ G N) (sym q) n)
  typed-single G B N n (suc i) A (C, g, e) = subst (TypeAt G i) (sym (ap (substitute_type reduce (single (skeleton B) N)) e ∙ substitute_weakened_type reduce (skeleton B) N C)) g

  pub single_substitution_typed : (G : List LfType) (B : LfType) (N : Term) → SkeletonContext G → SkeletonType G B → HasType Σ G N B → TypedSubstitution (B ∷ G) G (single (skeleton B) N)
  single_substitution_typed G B N g b n = record { typed = typed-single G B N n; source_skeletons = skeleton_context_push G B g b; target_skeletons = g }

  -- a substitution goes through the instance of a type, or kind
  substitute_instance : (G D : List LfType) (σ : ℕ → Image) (A : LfType) (M : Term) (B : LfType) → IsTypedSubstitution Σ G D σ → HasType Σ G M A → SkeletonType (A ∷ G) B → substitute_type reduce σ (instantiate_type A M B) ≡ instantiate_type (substitute_type reduce σ A) (substitute reduce σ M) (substitute_type reduce (lift σ) B)
  substitute_instance G D σ A M B w m b = substitute_single_type (family_skeletons Σ) (signature_skeletons Σ μ) (context_skeletons G) (context_skeletons D) σ (skeleton A) M B (typed_substitution_by_skeletons G D σ w) (typed_has_skeleton_with Σ μ G M A m) b ∙ ap (λ t. substitute_type reduce (single t (substitute reduce σ M)) (substitute_type reduce (lift σ) B)) (sym (skeleton_substituted reduce σ A))

  substitute_kind_instance : (G D : List LfType) (σ : ℕ → Image) (A : LfType) (M : Term) (K : Kind) → IsTypedSubstitution Σ G D σ → HasType Σ G M A → KindBySkeletons (family_skeletons Σ) (signature_skeletons Σ μ) (context_skeletons (A ∷ G)) K → substitute_kind reduce σ (instantiate_kind A M K) ≡ instantiate_kind (substitute_type reduce σ A) (substitute reduce σ M) (substitute_kind reduce (lift σ) K)
  substitute_kind_instance G D σ A M K w m k = substitute_single_kind (family_skeletons Σ) (signature_skeletons Σ μ) (context_skeletons G) (context_skeletons D) σ (skeleton A) M K (typed_substitution_by_skeletons G D σ w) (typed_has_skeleton_with Σ μ G M A m) k ∙ ap (λ t. substitute_kind reduce (single t (substitute reduce σ M)) (substitute_kind reduce (lift σ) K)) (sym (skeleton_substituted reduce σ A))

  pub SkeletonType-instance : (G : List LfType) (A : LfType) (M : Term) (B : LfType) → HasType Σ G M A → SkeletonType (A ∷ G) B → SkeletonType G (instantiate_type A M B)
  SkeletonType-instance G A M B m b = single_type_by_skeletons (family_skeletons Σ) (signature_skeletons Σ μ) (skeleton A) (context_skeletons G) M B (typed_has_skeleton_with Σ μ G M A m) b

  -- what `reduce` is to do at a skeleton
  abbrev pub ReductionTyped : Skeleton → Type 0
  ReductionTyped a = (D : List LfType) (N : Term) (S : Spine) (A C : LfType) → skeleton A ≡ a → SkeletonContext D → SkeletonType D A → HasType Σ D N A → SpineType Σ D S A C → HasType Σ D (reduce a N S) C

  HasType-apply_image : (D : List LfType) (x : Image) (S : Spine) (A : LfType) (b : ℕ) (T : Spine) → OnPut ReductionTyped x → SkeletonContext D → SkeletonType D A → ImageHasType Σ D x A → SpineType Σ D S A (atom b T) → HasType Σ D (apply_image reduce x S) (atom b T)
  HasType-apply_image D (keep j) S A b T k d t g s = (A, g, s)
  HasType-apply_image D (put a N) S A b T k d t (e, n) s = k D N S A (atom b T) e d t n s

  mutual
    HasType-substituted' : (G D : List LfType) (σ : ℕ → Image) (M : Term) (A : LfType) → Puts ReductionTyped σ → TypedSubstitution G D σ → SkeletonType G A → HasType Σ G M A → HasType Σ D (substitute reduce σ M) (substitute_type reduce σ A)
    HasType-substituted' G D σ (lambda M) (pi A B) k w t m = HasType-substituted' (A ∷ G) (substitute_type reduce σ A ∷ D) (lift σ) M B (Puts-lift ReductionTyped σ k) (lifted_substitution_typed G D σ A w t.0) t.1 m
    HasType-substituted' G D σ (lambda M) (atom b T) k w t m = absurd m
    HasType-substituted' G D σ (root h S) (pi A B) k w t m = absurd m
    HasType-substituted' G D σ (root (constant c) S) (atom b T) k w t (A, e, s) = (substitute_type reduce σ A, subst (λ X. Σ.types c ≡ Some X) (sym (closed_type_substituted Σ reduce σ A (ok.types_ok c A e))) e, SpineType-substituted' G D σ S A (atom b T) k w (type_by_skeletons_with Σ μ G A (constant_type Σ ok G c A e)) s)
    HasType-substituted' G D σ (root (metavariable c) S) (atom b T) k w t (A, e, s) = absurd e
    HasType-substituted' G D σ (root (variable i) S) (atom b T) k w t (A, g, s) = HasType-apply_image D (σ i) (substitute_spine reduce σ S) (substitute_type reduce σ A) b (substitute_spine reduce σ T) (k i) w.target_skeletons (SkeletonType-substituted G D σ A w (w.source_skeletons i A g)) (w.typed i A g) (SpineType-substituted' G D σ S A (atom b T) k w (w.source_skeletons i A g) s)

    SpineType-substituted' : (G D : List LfType) (σ : ℕ → Image) (S : Spine) (A C : LfType) → Puts ReductionTyped σ → TypedSubstitution G D σ → SkeletonType G A → SpineType Σ G S A C → SpineType Σ D (substitute_spine reduce σ S) (substitute_type reduce σ A) (substitute_type reduce σ C)
    SpineType-substituted' G D σ nil A C k w t e = ap (substitute_type reduce σ) e
    SpineType-substituted' G D σ (app M S) (pi A B) C k w t (m, s) = (HasType-substituted' G D σ M A k w t.0 m, subst (λ X. SpineType Σ D (substitute_spine reduce σ S) X (substitute_type reduce σ C)) (substitute_instance G D σ A M B w.typed m t.1) (SpineType-substituted' G D σ S (instantiate_type A M B) C k w (SkeletonType-instance G A M B m t.1) s))
    SpineType-substituted' G D σ (app M S) (atom b T) C k w t s = absurd s

  pub reduction_keeps_typing : (a : Skeleton) → ReductionTyped a
  reduction_keeps_typing (base c) D N nil A C e d t n s = subst (HasType Σ D N) s n
  reduction_keeps_typing (base c) D N (app M S) (pi A B) C e d t n s = absurd (arrow≢base e)
  reduction_keeps_typing (base c) D N (app M S) (atom b T) C e d t n s = absurd s
  reduction_keeps_typing (arrow a b) D (root h T) nil A C e d t n s = subst (HasType Σ D (root h T)) s n
  reduction_keeps_typing (arrow a b) D (root h T) (app M S) (pi A B) C e d t n s = absurd n
  reduction_keeps_typing (arrow a b) D (root h T) (app M S) (atom c U) C e d t n s = absurd s
  reduction_keeps_typing (arrow a b) D (lambda N) nil A C e d t n s = subst (HasType Σ D (lambda N)) s n
  reduction_keeps_typing (arrow a b) D (lambda N) (app M S) (atom c U) C e d t n s = absurd s
  reduction_keeps_typing (arrow a b) D (lambda N) (app M S) (pi A B) C e d t n (m, s) =
      let p : skeleton A ≡ a = arrow_dom e in
      let n' : HasType Σ D (substitute reduce (single (skeleton A) M) N) (instantiate_type A M B) = HasType-substituted' (A ∷ D) D (single (skeleton A) M) N B (Puts-single ReductionTyped (skeleton A) M (subst ReductionTyped (sym p) (reduction_keeps_typing a))) (single_substitution_typed D A M d t.0 m) t.1 n in
      subst (λ X. HasType Σ D X C) (ap (λ x. reduce b (substitute reduce (single x M) N) S) p ∙ sym (reduction_beta a b N M S)) (reduction_keeps_typing b D (substitute reduce (single (skeleton A) M) N) S (instantiate_type A M B) C (skeleton_substituted reduce (single (skeleton A) M) B ∙ arrow_cod e) d (SkeletonType-instance D A M B m t.1) n' s)

  pub substitution_keeps_typing : (G D : List LfType) (σ : ℕ → Image) (M : Term) (A : LfType) → TypedSubstitution G D σ → SkeletonType G A → HasType Σ G M A → HasType Σ D (substitute reduce σ M) (substitute_type reduce σ A)
  substitution_keeps_typing G D σ M A = HasType-substituted' G D σ M A (λ i. OnPut-all ReductionTyped reduction_keeps_typing (σ i))

  pub substitution_keeps_spine_typing : (G D : List LfType) (σ : ℕ → Image) (S : Spine) (A C : LfType) → TypedSubstitution G D σ → SkeletonType G A → SpineType Σ G S A C → SpineType Σ D (substitute_spine reduce σ S) (substitute_type reduce σ A) (substitute_type reduce σ C)
  substitution_keeps_spine_typing G D σ S A C = SpineType-substituted' G D σ S A C (λ i. OnPut-all ReductionTyped reduction_keeps_typing (σ i))

  pub substitution_keeps_kind_spines : (G D : List LfType) (σ : ℕ → Image) (S : Spine) (K : Kind) → TypedSubstitution G D σ → KindBySkeletons (family_skeletons Σ) (signature_skeletons Σ μ) (context_skeletons G) K → SpineFitsKind Σ G S K → SpineFitsKind Σ D (substitute_spine reduce σ S) (substitute_kind reduce σ K)
  substitution_keeps_kind_spines G D σ nil (kind_pi A K) w t s = absurd s
  substitution_keeps_kind_spines G D σ nil star w t s = s
  substitution_keeps_kind_spines G D σ (app M S) (kind_pi A K) w t (m, s) = (substitution_keeps_typing G D σ M A w t.0 m, subst (SpineFitsKind Σ D (substitute_spine reduce σ S)) (substitute_kind_instance G D σ A M K w.typed m t.1) (substitution_keeps_kind_spines G D σ S (instantiate_kind A M K) w (single_kind_by_skeletons (family_skeletons Σ) (signature_skeletons Σ μ) (skeleton A) (context_skeletons G) M K (typed_has_skeleton_with Σ μ G M A m) t.1) s))
  substitution_keeps_kind_spines G D σ (app M S) star w t s = absurd s

  pub substitution_keeps_types : (G D : List LfType) (σ : ℕ → Image) (A : LfType) → TypedSubstitution G D σ → IsType Σ G A → IsType Σ D (substitute_type reduce σ A)
  substitution_keeps_types G D σ (pi A B) w (t, b) = (substitution_keeps_types G D σ A w t, substitution_keeps_types (A ∷ G) (substitute_type reduce σ A ∷ D) (lift σ) B (lifted_substitution_typed G D σ A w (type_by_skeletons_with Σ μ G A t)) b)
  substitution_keeps_types G D σ (atom c S) w (K, e, s) = (K, e, subst (SpineFitsKind Σ D (substitute_spine reduce σ S)) (closed_kind_substituted Σ reduce σ K (ok.kinds_ok c K e)) (substitution_keeps_kind_spines G D σ S K w (kind_by_skeletons_with Σ μ G K (family_kind Σ ok G c K e)) s))

  -- the substitution lemma for the newest variable
  pub instance_is_typed : (G : List LfType) (A : LfType) (N M : Term) (B : LfType) → IsContext Σ G → IsType Σ G A → IsType Σ (A ∷ G) B → HasType Σ G N A → HasType Σ (A ∷ G) M B → HasType Σ G (substitute reduce (single (skeleton A) N) M) (instantiate_type A N B)
  instance_is_typed G A N M B c a b n m = substitution_keeps_typing (A ∷ G) G (single (skeleton A) N) M B (single_substitution_typed G A N (skeleton_context_of G c) (type_by_skeletons_with Σ μ G A a) n) (type_by_skeletons_with Σ μ (A ∷ G) B b) m

  pub instance_is_type : (G : List LfType) (A : LfType) (N : Term) (B : LfType) → IsContext Σ G → IsType Σ G A → IsType Σ (A ∷ G) B → HasType Σ G N A → IsType Σ G (instantiate_type A N B)
  instance_is_type G A N B c a b n = substitution_keeps_types (A ∷ G) G (single (skeleton A) N) B (single_substitution_typed G A N (skeleton_context_of G c) (type_by_skeletons_with Σ μ G A a) n) b
