-- From values of all quantifiers of a clause to a term: the head applied to them.
use Rattle.lf.specs.Entries.{quantifiers}
use Rattle.lf_cases.specs.Cover.{outer_images}
use Rattle.lf_checks.specs.Worlded.{IsTerm}
use Rattle.std.proofs.Common.{◌≡◌, ℕ, zero, suc, List, [], ◌∷◌, refl, sym, ap, ◌∙◌, subst}
use Rattle.lf.specs.Syntax.{variable, Term, Spine, lambda, root, nil, app, LfType, pi, atom, Skeleton, skeleton, weaken}
use Rattle.lf.specs.Substitution.{Image, keep, put, rename_image, lift, single, substitute_type, reduce, substitute_image, after}
use Rattle.lf.specs.SkeletonTyping.{TermSkeleton, ImageSkeleton, SubstitutionBySkeletons}
use Rattle.lf.specs.Typing.{Signature, TypeAt, instantiate_type, HasType, SpineType, IsType, IsContext, IsSignature, ImageHasType}
use Rattle.lf.specs.Variables.{target, target_arguments, with_arguments, binders}
use Rattle.lf.proofs.Renaming.{substitute_weakened}
use Rattle.lf.proofs.TypeLaws.{skeleton_substituted, substitute_renamed_type}
use Rattle.lf.specs.Skeletons.{constant_skeletons, family_skeletons}
use Rattle.lf.proofs.SkeletonTypes.{substitutions_compose_type}
use Rattle.lf.proofs.SkeletonTyping.{lift_by_skeletons, single_by_skeletons}
use Rattle.lf.proofs.Partial.{skeletons_beside, typed_has_skeleton_beside, type_by_skeletons_beside, ImageHasType-has_skeleton}
use Rattle.lf.proofs.Patch.{skeleton_beside_has_variable}
use mathlib.Core.Path.{fun_ext}

abbrev pub value_of : Image → Term
value_of (keep j) = root (variable j) nil
value_of (put a N) = N

-- the values of the quantifiers of a type, the first in front
abbrev pub value_spine : LfType → (ℕ → Image) → Spine
value_spine (pi A B) σ = app (value_of (outer_images (quantifiers B) σ zero)) (value_spine B σ)
value_spine (atom a S) σ = nil

abbrev pub AllPut : LfType → (ℕ → Image) → Type 0
AllPut (pi A B) σ = IsTerm (outer_images (quantifiers B) σ zero) × AllPut B σ
AllPut (atom a S) σ = Unit {0}

module _ (Σ : Signature) (ok : IsSignature Σ) where
  abbrev pub AllTyped : List LfType → List LfType → (ℕ → Image) → Type 0
  AllTyped C D σ = (i : ℕ) (A : LfType) → TypeAt C i A → ImageHasType Σ D (σ i) (substitute_type reduce σ A)

  pub AllTyped-has_skeleton : (P : List Skeleton) (C D : List LfType) (σ : ℕ → Image) → AllTyped C D σ → SubstitutionBySkeletons (constant_skeletons Σ) (skeletons_beside [] C) (skeletons_beside P D) σ
  AllTyped-has_skeleton P C D σ w i t g = let (A, h, e) = skeleton_beside_has_variable C i t g in subst (ImageSkeleton (constant_skeletons Σ) (skeletons_beside P D) (σ i)) (skeleton_substituted reduce σ A ∙ e) (ImageHasType-has_skeleton Σ ok P D (σ i) (substitute_type reduce σ A) (w i A h))

  typed_outer : (X : LfType) (C D : List LfType) (σ : ℕ → Image) → AllTyped (X ∷ C) D σ → AllTyped C D (λ i. σ (suc i))
  typed_outer X C D σ w i A g = subst (ImageHasType Σ D (σ (suc i))) (substitute_renamed_type reduce σ suc A) (w (suc i) (weaken A) (A, g, refl))

  pub typed_outers : (A : LfType) (C D : List LfType) (σ : ℕ → Image) → AllTyped (binders C A) D σ → AllTyped C D (outer_images (quantifiers A) σ)
  typed_outers (pi A B) C D σ w = typed_outer A C D (outer_images (quantifiers B) σ) (typed_outers B (A ∷ C) D σ w)
  typed_outers (atom a S) C D σ w = w

  around : (a : Skeleton) (N : Term) (x : Image) → substitute_image (single a N) (rename_image suc x) ≡ x
  around a N (keep k) = refl
  around a N (put b P) = ap (put b) (substitute_weakened reduce a N P)

  -- one more value
  after_single : (a : Skeleton) (N : Term) (τ : ℕ → Image) → τ zero ≡ put a N → (i : ℕ) → after (single a N) (lift (λ j. τ (suc j))) i ≡ τ i
  after_single a N τ e zero = sym e
  after_single a N τ e (suc i) = around a N (τ (suc i))

  instance_outer : (A B : LfType) (C D : List LfType) (τ : ℕ → Image) (N : Term) → IsType Σ C A → IsType Σ (A ∷ C) B → AllTyped C D (λ j. τ (suc j)) → HasType Σ D N (substitute_type reduce (λ j. τ (suc j)) A) → τ zero ≡ put (skeleton A) N → instantiate_type (substitute_type reduce (λ j. τ (suc j)) A) N (substitute_type reduce (lift (λ j. τ (suc j))) B) ≡ substitute_type reduce τ B
  instance_outer A B C D τ N a b w n e =
      let ρ : ℕ → Image = λ j. τ (suc j) in
      let s : Skeleton = skeleton A in
      let p : skeleton (substitute_type reduce ρ A) ≡ s = skeleton_substituted reduce ρ A in
      ap (λ t. substitute_type reduce (single t N) (substitute_type reduce (lift ρ) B)) p ∙ substitutions_compose_type (family_skeletons Σ) (constant_skeletons Σ) (s ∷ skeletons_beside [] C) (s ∷ skeletons_beside [] D) (skeletons_beside [] D) (lift ρ) (single s N) B (lift_by_skeletons (constant_skeletons Σ) s (skeletons_beside [] C) (skeletons_beside [] D) ρ (AllTyped-has_skeleton [] C D ρ w)) (single_by_skeletons (constant_skeletons Σ) s (skeletons_beside [] D) N (subst (TermSkeleton (constant_skeletons Σ) (skeletons_beside [] D) N) p (typed_has_skeleton_beside Σ [] D N (substitute_type reduce ρ A) n))) (type_by_skeletons_beside Σ [] (A ∷ C) B b) ∙ ap (λ f. substitute_type reduce f B) (fun_ext (after_single s N τ e))

  image_value : (D : List LfType) (x : Image) (A : LfType) → IsTerm x → ImageHasType Σ D x A → HasType Σ D (value_of x) A × (x ≡ put (skeleton A) (value_of x))
  image_value D (keep j) A p w = absurd p
  image_value D (put a N) A p (e, n) = (n, ap (λ t. put t N) (sym e))

  pub assemble : (A : LfType) (C D : List LfType) (σ : ℕ → Image) → IsType Σ C A → AllTyped (binders C A) D σ → AllPut A σ → SpineType Σ D (value_spine A σ) (substitute_type reduce (outer_images (quantifiers A) σ) A) (substitute_type reduce σ (atom (target A) (target_arguments A)))
  assemble (pi A B) C D σ (a, b) w (p, q) =
      let τ : ℕ → Image = outer_images (quantifiers B) σ in
      let ρ : ℕ → Image = λ j. τ (suc j) in
      let t : AllTyped (A ∷ C) D τ = typed_outers B (A ∷ C) D σ w in
      let t' : AllTyped C D ρ = typed_outer A C D τ t in
      let v : ImageHasType Σ D (τ zero) (substitute_type reduce ρ A) = subst (ImageHasType Σ D (τ zero)) (substitute_renamed_type reduce τ suc A) (t zero (weaken A) refl) in
      let (n, e) = image_value D (τ zero) (substitute_type reduce ρ A) p v in
      (n, subst (λ X. SpineType Σ D (value_spine B σ) X (substitute_type reduce σ (atom (target B) (target_arguments B)))) (sym (instance_outer A B C D τ (value_of (τ zero)) a b t' n (e ∙ ap (λ t. put t (value_of (τ zero))) (skeleton_substituted reduce ρ A)))) (assemble B (A ∷ C) D σ b w q))
  assemble (atom a S) C D σ t w q = refl

  -- what stands at the end of a typed type is typed
  pub end_typed : (A : LfType) (C : List LfType) → IsType Σ C A → IsType Σ (binders C A) (atom (target A) (target_arguments A))
  end_typed (pi A B) C (a, b) = end_typed B (A ∷ C) b
  end_typed (atom c S) C t = t

  pub binders_typed : (A : LfType) (C : List LfType) → IsContext Σ C → IsType Σ C A → IsContext Σ (binders C A)
  binders_typed (pi A B) C c (a, b) = binders_typed B (A ∷ C) (c, a) b
  binders_typed (atom d S) C c t = c

-- lambdas for the quantifiers of a type
abbrev pub lams : LfType → Term → Term
lams (pi A B) M = lambda (lams B M)
lams (atom a S) M = M

pub lams_typed : (Σ : Signature) (A : LfType) (C : List LfType) (M : Term) (T : Spine) → HasType Σ (binders C A) M (atom (target A) T) → HasType Σ C (lams A M) (with_arguments A T)
lams_typed Σ (pi A B) C M T m = lams_typed Σ B (A ∷ C) M T m
lams_typed Σ (atom a S) C M T m = m
