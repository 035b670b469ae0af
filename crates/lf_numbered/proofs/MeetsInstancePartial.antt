-- Values of some variables of a context: put together with others where they agree, and with values put into them.
use Rattle.std.proofs.Common.{◌≡◌, ℕ, zero, suc, ◌⊎◌, List, [], ◌∷◌, inl, inr, refl, sym, ap, ◌∙◌, subst}
use Rattle.std.specs.Prelude.{Bool, true, false, cond}
use Rattle.lf.specs.Syntax.{LfType, Skeleton, skeleton, weaken}
use Rattle.lf.specs.Substitution.{Image, keep, put, substitute_image, substitute_type, reduce, after}
use Rattle.lf.specs.SkeletonTyping.{SkeletonAt, ImageSkeleton, SubstitutionBySkeletons}
use Rattle.lf.specs.Skeletons.{constant_skeletons, family_skeletons}
use Rattle.lf.specs.Typing.{Signature, TypeAt, ImageHasType, IsTypedSubstitution, IsType, IsContext, IsSignature}
use Rattle.lf.specs.Variables.{Values, UsesType}
use Rattle.lf.proofs.Agreement.{agree_on_type, uses_type_within}
use Rattle.lf.proofs.Closed.{agree, agree_type}
use Rattle.lf.proofs.Partial.{ImageHasType-has_skeleton, skeletons_beside, type_by_skeletons_beside}
use Rattle.lf.proofs.Patch.{beyond, patch, patch_same, patched}
use Rattle.lf.proofs.SkeletonTypes.{substitutions_compose_type}
use Rattle.lf.proofs.Substitution.{skeleton_context_of, substitution_keeps_typing}
use Rattle.lf.proofs.ToSkeletons.{type_by_skeletons}
use Rattle.lf.proofs.TypeLaws.{skeleton_renamed, skeleton_substituted}
use Rattle.lf.proofs.Weakening.{declared_is_type}
use Rattle.lf_checks.specs.Tests.{both, either}
use Rattle.lf_checks.proofs.StrictTypes.{either_cases}
use Rattle.lf_totality.proofs.OutputCases.{in_context, in_covers, in_type}
use Rattle.lf.proofs.Kept.{typed_uses_type}
use Rattle.lf_coverage.proofs.Carried.{beyond_at}
use Rattle.lf_coverage.proofs.Choices.{either_first, either_second}
use Rattle.lf_coverage.proofs.Matched.{type_third}
use Rattle.lf_coverage.proofs.Meeting.{joined, joined_near}
use Rattle.lf_coverage.proofs.StayTyped.{value_type}

-- Substitutions that agree on the variables of a set that a context has put the same into a type with these alone.
both_true : (a b : Bool) → a ≡ true → b ≡ true → both a b ≡ true
both_true true b e f = f
both_true false b e f = absurd cc

first_true : (a b : Bool) → both a b ≡ true → a ≡ true
first_true true b e = refl
first_true false b e = absurd cc

second_true : (a b : Bool) → both a b ≡ true → b ≡ true
second_true true b e = e
second_true false b e = absurd cc

pub agree_in : (Σ : Signature) (G : List LfType) (U : ℕ → Bool) (f g : ℕ → Image) → ((i : ℕ) (A : LfType) → TypeAt G i A → U i ≡ true → f i ≡ g i) → (A : LfType) → IsType Σ G A → UsesType U A → substitute_type reduce f A ≡ substitute_type reduce g A
agree_in Σ G U f g h A t u = agree_on_type reduce (λ i. both (U i) (in_context G i)) f g A (λ i e. let (B, k) = in_type G i (second_true (U i) (in_context G i) e) in h i B k (first_true (U i) (in_context G i) e)) (type_third U (in_context G) (λ i. both (U i) (in_context G i)) (λ i a b. both_true (U i) (in_context G i) a b) A u (typed_uses_type Σ G (in_context G) A (in_covers G) t))

-- one set's values, and for other variables those of another set
abbrev pub put_together : (ℕ → Bool) → (ℕ → Image) → (ℕ → Image) → ℕ → Image
put_together U f g i = cond (U i) (f i) (g i)

pub together_first : (U : ℕ → Bool) (f g : ℕ → Image) (i : ℕ) → U i ≡ true → f i ≡ put_together U f g i
together_first U f g i e = sym (ap (λ b. cond b (f i) (g i)) e)

pub together_second : (U : ℕ → Bool) (f g : ℕ → Image) (i : ℕ) → (U i ≡ true → f i ≡ g i) → g i ≡ put_together U f g i
together_second U f g i h = by (U i) refl
  where
    by : (b : Bool) → U i ≡ b → g i ≡ put_together U f g i
    by true e = sym (h e) ∙ sym (ap (λ b. cond b (f i) (g i)) e)
    by false e = sym (ap (λ b. cond b (f i) (g i)) e)

pub values_together : (Σ : Signature) → IsSignature Σ → (G H : List LfType) → IsContext Σ G → (U V : ℕ → Bool) (f g : ℕ → Image) → Values Σ U G H f → Values Σ V G H g → ((i : ℕ) (A : LfType) → TypeAt G i A → V i ≡ true → U i ≡ true → f i ≡ g i) → Values Σ (λ i. either (U i) (V i)) G H (put_together U f g)
values_together Σ ok G H c U V f g v w same = record { typed = λ i A k u. typed i A k (either_cases (U i) (V i) u); closed = λ i A k u. closed i A k (either_cases (U i) (V i) u) }
  where
    typed : (i : ℕ) (A : LfType) → TypeAt G i A → (U i ≡ true) ⊎ (V i ≡ true) → ImageHasType Σ H (put_together U f g i) (substitute_type reduce (put_together U f g) A)
    typed i A k (inl u) = subst (ImageHasType Σ H (put_together U f g i)) (agree_on_type reduce U f (put_together U f g) A (λ j e. together_first U f g j e) (v.closed i A k u)) (subst (λ x. ImageHasType Σ H x (substitute_type reduce f A)) (together_first U f g i u) (v.typed i A k u))
    typed i A k (inr u) = subst (ImageHasType Σ H (put_together U f g i)) (agree_in Σ G V g (put_together U f g) (λ j B h e. together_second U f g j (same j B h e)) A (declared_is_type Σ ok G i A c k) (w.closed i A k u)) (subst (λ x. ImageHasType Σ H x (substitute_type reduce g A)) (together_second U f g i (same i A k u)) (w.typed i A k u))

    closed : (i : ℕ) (A : LfType) → TypeAt G i A → (U i ≡ true) ⊎ (V i ≡ true) → UsesType (λ j. either (U j) (V j)) A
    closed i A k (inl u) = uses_type_within U (λ j. either (U j) (V j)) A (λ j e. either_first (U j) (V j) e) (v.closed i A k u)
    closed i A k (inr u) = uses_type_within V (λ j. either (U j) (V j)) A (λ j e. either_second (U j) (V j) e) (w.closed i A k u)

-- Variables of a context, and those beyond it
beyond_cases : (Γ : List Skeleton) (O : List LfType) (i : ℕ) (t : Skeleton) → SkeletonAt (skeletons_beside Γ O) i t → ((A : LfType) × TypeAt O i A × (skeleton A ≡ t)) ⊎ ((j : ℕ) × (i ≡ beyond O j) × SkeletonAt Γ j t)
beyond_cases Γ [] i t g = inr (i, refl, g)
beyond_cases Γ (B ∷ O) zero t g = inl (weaken B, refl, skeleton_renamed suc B ∙ g)
beyond_cases Γ (B ∷ O) (suc i) t g = by (beyond_cases Γ O i t g)
  where
    by : ((A : LfType) × TypeAt O i A × (skeleton A ≡ t)) ⊎ ((j : ℕ) × (i ≡ beyond O j) × SkeletonAt Γ j t) → ((A : LfType) × TypeAt (B ∷ O) (suc i) A × (skeleton A ≡ t)) ⊎ ((j : ℕ) × (suc i ≡ beyond (B ∷ O) j) × SkeletonAt Γ j t)
    by (inl (A, h, e)) = inl (weaken A, (A, h, refl), skeleton_renamed suc A ∙ e)
    by (inr (j, e, h)) = inr (j, ap suc e, h)

joined_beyond : (O : List LfType) (σ τ : ℕ → Image) (j : ℕ) → joined O σ τ (beyond O j) ≡ τ j
joined_beyond [] σ τ j = refl
joined_beyond (A ∷ O) σ τ j = joined_beyond O (λ i. σ (suc i)) τ j

-- Values put into values of some variables
module _ (Σ : Signature) (ok : IsSignature Σ) (V : ℕ → Bool) (G O P : List LfType) (g σ : ℕ → Image) (cg : IsContext Σ G) (co : IsContext Σ O) (cp : IsContext Σ P) (v : Values Σ V G O g) (t : IsTypedSubstitution Σ O P σ) where
  abbrev Γ : List Skeleton
  Γ = skeletons_beside [] G

  abbrev σ' : ℕ → Image
  σ' = joined O σ (λ j. keep (beyond P j))

  near : (i : ℕ) (A : LfType) → TypeAt O i A → σ' i ≡ σ i
  near i A h = joined_near O σ (λ j. keep (beyond P j)) i A h

  fits : SubstitutionBySkeletons (constant_skeletons Σ) (skeletons_beside (skeletons_beside [] G) O) (skeletons_beside (skeletons_beside [] G) P) σ'
  fits i s k = by (beyond_cases Γ O i s k)
    where
      by : ((A : LfType) × TypeAt O i A × (skeleton A ≡ s)) ⊎ ((j : ℕ) × (i ≡ beyond O j) × SkeletonAt Γ j s) → ImageSkeleton (constant_skeletons Σ) (skeletons_beside Γ P) (σ' i) s
      by (inl (A, h, e)) = subst (λ x. ImageSkeleton (constant_skeletons Σ) (skeletons_beside Γ P) x s) (sym (near i A h)) (subst (ImageSkeleton (constant_skeletons Σ) (skeletons_beside Γ P) (σ i)) (skeleton_substituted reduce σ A ∙ e) (ImageHasType-has_skeleton Σ ok Γ P (σ i) (substitute_type reduce σ A) (t i A h)))
      by (inr (j, e, h)) = subst (λ x. ImageSkeleton (constant_skeletons Σ) (skeletons_beside Γ P) x s) (sym (ap σ' e ∙ joined_beyond O σ (λ l. keep (beyond P l)) j)) (beyond_at Γ P j s h)

  image_near : (x : Image) (A : LfType) → ImageHasType Σ O x A → substitute_image σ' x ≡ substitute_image σ x
  image_near (keep i) A h = near i A h
  image_near (put a N) A (e, h) = ap (put a) (agree Σ reduce O σ' σ N A near h)

  image_put : (x : Image) (A : LfType) → IsType Σ O A → ImageHasType Σ O x A → ImageHasType Σ P (substitute_image σ x) (substitute_type reduce σ A)
  image_put (keep j) A h k = t j A k
  image_put (put a N) A h (e, k) = (skeleton_substituted reduce σ A ∙ e, substitution_keeps_typing Σ ok O P σ N A (record { typed = t; source_skeletons = skeleton_context_of Σ ok O co; target_skeletons = skeleton_context_of Σ ok P cp }) (type_by_skeletons Σ O A h) k)

  pub put_both : (A : LfType) → IsType Σ G A → UsesType V A → substitute_type reduce σ (substitute_type reduce g A) ≡ substitute_type reduce (after σ g) A
  put_both A h u =
      let g' : ℕ → Image = patch V O g in
      let w : IsType Σ O (substitute_type reduce g A) = value_type Σ ok V G O g A cg co v h u in
      sym (agree_type Σ reduce O σ' σ (substitute_type reduce g A) near w)
      ∙ ap (substitute_type reduce σ') (agree_on_type reduce V g g' A (patch_same V O g) u)
      ∙ substitutions_compose_type (family_skeletons Σ) (constant_skeletons Σ) Γ (skeletons_beside Γ O) (skeletons_beside Γ P) g' σ' A (patched Σ ok V G O g cg co v).sk fits (type_by_skeletons_beside Σ [] G A h)
      ∙ sym (agree_in Σ G V (after σ g) (after σ' g') (λ i B k e. sym (image_near (g i) (substitute_type reduce g B) (v.typed i B k e)) ∙ ap (substitute_image σ') (patch_same V O g i e)) A h u)

  pub values_put : Values Σ V G P (after σ g)
  values_put = record {
    typed = λ i A k u. let h = declared_is_type Σ ok G i A cg k in subst (ImageHasType Σ P (substitute_image σ (g i))) (put_both A h (v.closed i A k u)) (image_put (g i) (substitute_type reduce g A) (value_type Σ ok V G O g A cg co v h (v.closed i A k u)) (v.typed i A k u));
    closed = v.closed;
  }
