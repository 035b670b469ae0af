-- Values of a context that are carried on past it, and values that are the same as terms where a term uses them.
use Rattle.std.proofs.Common.{◌≡◌, ℕ, zero, suc, List, [], ◌∷◌, refl, sym, ap, ◌∙◌, subst}
use Rattle.std.specs.Prelude.{Bool, true, false, Some}
use Rattle.lf.specs.Syntax.{Term, nil, app, LfType, atom, Skeleton, base, arrow, skeleton}
use Rattle.lf.specs.Substitution.{Image, keep, substitute, substitute_type, reduce}
use Rattle.lf.specs.SkeletonTyping.{HeadSkeletons, SkeletonAt, ImageSkeleton, TermSkeleton, SubstitutionBySkeletons}
use Rattle.lf.specs.Skeletons.{constant_skeletons, family_skeletons, context_skeletons}
use Rattle.lf.specs.Typing.{Signature, TypeAt, ImageHasType, IsTypedSubstitution, IsType, IsContext, IsSignature}
use Rattle.lf.specs.Variables.{Uses, UsesType, SameOn, everything}
use Rattle.lf.proofs.Agreement.{agree_on, agree_on_type}
use Rattle.lf.proofs.Kept.{typed_uses_type}
use Rattle.lf.proofs.Partial.{skeletons_beside, PartialSubstitution, ImageHasType-has_skeleton, skeleton_context_of_beside}
use Rattle.lf.proofs.Patch.{pick, beyond}
use Rattle.lf.proofs.ToSkeletons.{type_by_skeletons, skeleton_has_variable}
use Rattle.lf.proofs.TypeLaws.{skeleton_substituted}
use Rattle.lf.proofs.Weakening.{declared_is_type}
use Rattle.lf_cases.specs.Case.{as_term}
use Rattle.lf_cases.proofs.LongValues.{long_at, long_past, long_same}
use Rattle.lf_totality.proofs.OutputCases.{in_context, in_covers, in_type}
use Rattle.lf_coverage.proofs.GroundTyped.{long_equal}
use Rattle.lf_coverage.proofs.Transfer.{same_in}

-- past the context D stands what is past G
abbrev pub carry : List LfType → List LfType → (ℕ → Image) → ℕ → Image
carry [] G σ i = keep (beyond G i)
carry (A ∷ D) G σ zero = σ zero
carry (A ∷ D) G σ (suc i) = carry D G (λ j. σ (suc j)) i

pub carry_same : (D G : List LfType) (σ : ℕ → Image) (i : ℕ) → in_context D i ≡ true → carry D G σ i ≡ σ i
carry_same [] G σ i e = absurd cc
carry_same (A ∷ D) G σ zero e = refl
carry_same (A ∷ D) G σ (suc i) e = carry_same D G (λ j. σ (suc j)) i e

pub beyond_at : (P : List Skeleton) (D : List LfType) (i : ℕ) (t : Skeleton) → SkeletonAt P i t → SkeletonAt (skeletons_beside P D) (beyond D i) t
beyond_at P [] i t g = g
beyond_at P (A ∷ D) i t g = beyond_at P D i t g

carry_fits : (κ : HeadSkeletons) (P : List Skeleton) (D G : List LfType) (σ : ℕ → Image) → ((i : ℕ) (t : Skeleton) → SkeletonAt (context_skeletons D) i t → ImageSkeleton κ (skeletons_beside P G) (σ i) t) → SubstitutionBySkeletons κ (skeletons_beside P D) (skeletons_beside P G) (carry D G σ)
carry_fits κ P [] G σ h i t g = beyond_at P G i t g
carry_fits κ P (A ∷ D) G σ h zero t e = h zero t e
carry_fits κ P (A ∷ D) G σ h (suc i) t g = carry_fits κ P D G (λ j. σ (suc j)) (λ j u k. h (suc j) u k) i t g

-- a skeleton of a context is that of a type
pub beside_nothing : (C : List LfType) → skeletons_beside [] C ≡ context_skeletons C
beside_nothing [] = refl
beside_nothing (A ∷ C) = ap (λ Γ. skeleton A ∷ Γ) (beside_nothing C)

-- typed values, carried on, with P outside
pub carried : (Σ : Signature) (ok : IsSignature Σ) (P : List Skeleton) (C G : List LfType) (σ : ℕ → Image) → IsContext Σ C → IsContext Σ G → IsTypedSubstitution Σ C G σ → PartialSubstitution Σ ok P P everything C G (carry C G σ)
carried Σ ok P C G σ c d t = record {
  typed = λ i A g u. subst (ImageHasType Σ G (carry C G σ i)) (agree_on_type reduce (in_context C) σ (carry C G σ) A (λ j e. sym (carry_same C G σ j e)) (typed_uses_type Σ C (in_context C) A (in_covers C) (declared_is_type Σ ok C i A c g))) (subst (λ x. ImageHasType Σ G x (substitute_type reduce σ A)) (sym (carry_same C G σ i (in_covers C i A g))) (t i A g));
  sk = carry_fits (constant_skeletons Σ) P C G σ (λ i u k. let (A, g, e) = skeleton_has_variable C i u k in subst (ImageSkeleton (constant_skeletons Σ) (skeletons_beside P G) (σ i)) (skeleton_substituted reduce σ A ∙ e) (ImageHasType-has_skeleton Σ ok P G (σ i) (substitute_type reduce σ A) (t i A g)));
  source_skeletons = skeleton_context_of_beside Σ ok P C c;
  target_skeletons = skeleton_context_of_beside Σ ok P G d;
}

-- Eta-long forms in place of variables change nothing of a term that has a skeleton.
pub long_term_same : (κ : HeadSkeletons) (O : List LfType) (Δ : List Skeleton) (σ : ℕ → Image) (M : Term) (t : Skeleton) → SubstitutionBySkeletons κ (context_skeletons O) Δ σ → TermSkeleton κ (context_skeletons O) M t → substitute reduce (long_at O σ) M ≡ substitute reduce σ M
long_term_same κ O Δ σ M t s m = only (long_same κ (λ c. Some (arrow t (base c))) [] O Δ σ (atom zero (app M nil)) s (arrow t (base zero), refl, (m, refl)))
  where
    only : {X Y : Term} → atom zero (app X nil) ≡ atom zero (app Y nil) → X ≡ Y
    only e = cc

picked : (κ : HeadSkeletons) (Δ : List Skeleton) (x y : Image) (t : Skeleton) (b : Bool) → ImageSkeleton κ Δ x t → ImageSkeleton κ Δ y t → ImageSkeleton κ Δ (pick b x y) t
picked κ Δ x y t true h k = h
picked κ Δ x y t false h k = k

-- Values of a context that are the same, as terms, on U, make the same of what uses U only.
module _ (Σ : Signature) (O : List LfType) (Δ : List Skeleton) (U : ℕ → Bool) (ω v : ℕ → Image) (fω : SubstitutionBySkeletons (constant_skeletons Σ) (context_skeletons O) Δ ω) (fv : SubstitutionBySkeletons (constant_skeletons Σ) (context_skeletons O) Δ v) (same : (i : ℕ) (X : LfType) → TypeAt O i X → U i ≡ true → as_term (skeleton X) (ω i) ≡ as_term (skeleton X) (v i)) where
  abbrev mixed : ℕ → Image
  mixed i = pick (U i) (ω i) (v i)

  mixed_fits : SubstitutionBySkeletons (constant_skeletons Σ) (context_skeletons O) Δ mixed
  mixed_fits i t g = picked (constant_skeletons Σ) Δ (ω i) (v i) t (U i) (fω i t g) (fv i t g)

  on_used : SameOn U ω mixed
  on_used i u = sym (ap (λ b. pick b (ω i) (v i)) u)

  mixed_like : (i : ℕ) (X : LfType) → TypeAt O i X → as_term (skeleton X) (mixed i) ≡ as_term (skeleton X) (v i)
  mixed_like i X g = by (U i) refl
    where
      by : (b : Bool) → U i ≡ b → as_term (skeleton X) (mixed i) ≡ as_term (skeleton X) (v i)
      by true e = ap (λ b. as_term (skeleton X) (pick b (ω i) (v i))) e ∙ same i X g e
      by false e = ap (λ b. as_term (skeleton X) (pick b (ω i) (v i))) e

  long_mixed : (i : ℕ) (X : LfType) → TypeAt O i X → long_at O mixed i ≡ long_at O v i
  long_mixed i X g = long_equal O mixed v mixed_like i X g

  pub like_type : (A : LfType) → IsType Σ O A → UsesType U A → substitute_type reduce ω A ≡ substitute_type reduce v A
  like_type A t u =
      agree_on_type reduce U ω mixed A on_used u
      ∙ sym (long_same (constant_skeletons Σ) (family_skeletons Σ) [] O Δ mixed A mixed_fits (type_by_skeletons Σ O A t))
      ∙ agree_on_type reduce (in_context O) (long_past [] O mixed) (long_past [] O v) A (λ i e. let (X, g) = in_type O i e in long_mixed i X g) (typed_uses_type Σ O (in_context O) A (in_covers O) t)
      ∙ long_same (constant_skeletons Σ) (family_skeletons Σ) [] O Δ v A fv (type_by_skeletons Σ O A t)

  pub like_term : (M : Term) (t : Skeleton) → TermSkeleton (constant_skeletons Σ) (context_skeletons O) M t → Uses U M → substitute reduce ω M ≡ substitute reduce v M
  like_term M t m u =
      agree_on reduce U ω mixed M on_used u
      ∙ sym (long_term_same (constant_skeletons Σ) O Δ mixed M t mixed_fits m)
      ∙ same_in (constant_skeletons Σ) (context_skeletons O) (long_at O mixed) (long_at O v) (λ i s g. let (X, h, e) = skeleton_has_variable O i s g in long_mixed i X h) M t m
      ∙ long_term_same (constant_skeletons Σ) O Δ v M t fv m
