-- What stands for the variables of a clause beside a case: the given terms, and the variables moved past the items.
use Rattle.std.proofs.Common.{◌≡◌, ℕ, zero, suc, ◌+◌, List, [], ◌∷◌, length, inl, inr, refl, sym, ap, ◌∙◌, subst, arith}
use Rattle.std.specs.Prelude.{Bool, true, Option, Some, None, ◌⊎◌}
use Rattle.lf.specs.Syntax.{Term, Spine, LfType, Skeleton, skeleton, weaken, rename, rename_spine, rename_type}
use Rattle.lf.specs.Substitution.{Image, keep, put, substitute_spine, substitute_type, after, reduce}
use Rattle.lf.specs.SkeletonTyping.{SkeletonAt, TermSkeleton, SpineSkeleton, TypeBySkeletons, ImageSkeleton, SubstitutionBySkeletons}
use Rattle.lf.specs.Skeletons.{constant_skeletons, family_skeletons, context_skeletons}
use Rattle.lf.specs.AtOnce.{shift_by, lift_renaming_by}
use Rattle.lf.specs.Typing.{Signature, TypeAt, HasType, IsType, IsContext, IsSignature, IsTypedRenaming, ImageHasType}
use Rattle.lf.specs.Variables.{onto, Values}
use Rattle.lf.specs.Worlds.{lift_over, instance}
use Rattle.lf.proofs.Decidability.{variable_type_unique}
use Rattle.lf.proofs.Renaming.{substitute_renamed_spine}
use Rattle.lf.proofs.Composition.{substitutions_compose_spine}
use Rattle.lf.proofs.SkeletonTypes.{substitutions_compose_type}
use Rattle.lf.proofs.ToSkeletons.{variable_has_skeleton, skeleton_has_variable, typed_has_skeleton}
use Rattle.lf.proofs.TypeLaws.{skeleton_renamed, substitute_renamed_type}
use Rattle.lf.proofs.Weakening.{renames_under_binder, renaming_keeps_types, renaming_keeps_typing}
use Rattle.lf_cases.specs.Pattern.{is_given, given_at}
use Rattle.lf_cases.specs.Candidates.{given_images}
use Rattle.lf_cases.specs.OutputGoal.{renumber}
use Rattle.lf_cases.proofs.OutputItems.{lifted, lift_after}
use Rattle.lf_cases.proofs.Raised.{rename_identity, rename_identity_type}
use Rattle.lf_coverage.proofs.Forms.{far_type, near_type}
use Rattle.lf_coverage.proofs.Parts.{none_some}
use Rattle.lf_coverage.proofs.Transfer.{after_over, lifted_instance}
use mathlib.Core.Path.{fun_ext}

-- nothing is given for the variable, and it stands for itself; or a term is
abbrev pub StandsForItself : List LfType → List (Option Term) → ℕ → ℕ → Type 0
StandsForItself G Ms n i = (given_images G Ms n i ≡ keep (i + n)) × ((A : LfType) (M : Term) → TypeAt G i A → given_at Ms i ≡ Some M → ⊥)

abbrev pub StandsForGiven : List LfType → List (Option Term) → ℕ → ℕ → Type 0
StandsForGiven G Ms n i = (A : LfType) × (M : Term) × TypeAt G i A × (given_at Ms i ≡ Some M) × (given_images G Ms n i ≡ put (skeleton A) M)

given_next : (A : LfType) (G : List LfType) (N : Option Term) (Ms : List (Option Term)) (n i : ℕ) → given_images (A ∷ G) (N ∷ Ms) n (suc i) ≡ given_images G Ms (suc n) i → StandsForItself G Ms (suc n) i ⊎ StandsForGiven G Ms (suc n) i → StandsForItself (A ∷ G) (N ∷ Ms) n (suc i) ⊎ StandsForGiven (A ∷ G) (N ∷ Ms) n (suc i)
given_next A G N Ms n i s (inl (e, h)) = inl (s ∙ e ∙ ap keep (next i n), λ B M k q. h k.0 M k.1 q)
  where
    next : (i n : ℕ) → i + suc n ≡ suc i + n
    next i n = omega arith
given_next A G N Ms n i s (inr (B, M, g, q, e)) = inr (weaken B, M, (B, g, refl), q, s ∙ e ∙ ap (λ a. put a M) (sym (skeleton_renamed suc B)))

pub given_cases : (G : List LfType) (Ms : List (Option Term)) (n i : ℕ) → StandsForItself G Ms n i ⊎ StandsForGiven G Ms n i
given_cases G [] n i = inl (refl, λ A M k q. none_some q)
given_cases [] (Some M ∷ Ms) n i = inl (refl, λ A N k q. absurd k)
given_cases [] (None ∷ Ms) n i = inl (refl, λ A N k q. absurd k)
given_cases (A ∷ G) (Some M ∷ Ms) n zero = inr (weaken A, M, refl, refl, ap (λ a. put a M) (sym (skeleton_renamed suc A)))
given_cases (A ∷ G) (None ∷ Ms) n zero = inl (ap keep (none n), λ B M k q. none_some q)
  where
    none : (n : ℕ) → n ≡ 0 + n
    none n = omega arith
given_cases (A ∷ G) (Some M ∷ Ms) n (suc i) = given_next A G (Some M) Ms n i refl (given_cases G Ms (suc n) i)
given_cases (A ∷ G) (None ∷ Ms) n (suc i) = given_next A G None Ms n i refl (given_cases G Ms (suc n) i)

pub given_there : (Ms : List (Option Term)) (i : ℕ) (M : Term) → given_at Ms i ≡ Some M → is_given Ms i ≡ true
given_there [] i M e = absurd cc
given_there (Some N ∷ Ms) zero M e = refl
given_there (None ∷ Ms) zero M e = absurd cc
given_there (N ∷ Ms) (suc i) M e = given_there Ms i M e

-- A context in front of another.
pub near_renames : (O Q : List LfType) → IsTypedRenaming O (onto O Q) (λ i. i)
near_renames O Q i A g = subst (TypeAt (onto O Q) i) (sym (rename_identity_type A)) (near_type O Q i A g)

pub far_renames : (O Q : List LfType) → IsTypedRenaming Q (onto O Q) (shift_by (length O))
far_renames O Q i A g = far_type O Q i A g

module _ (Σ : Signature) (ok : IsSignature Σ) where
  pub near_typed : (O Q : List LfType) (M : Term) (A : LfType) → HasType Σ O M A → HasType Σ (onto O Q) M A
  near_typed O Q M A m = subst (λ N. HasType Σ (onto O Q) N A) (rename_identity M) (subst (HasType Σ (onto O Q) (rename (λ i. i) M)) (rename_identity_type A) (renaming_keeps_typing Σ ok O (onto O Q) (λ i. i) M A (near_renames O Q) m))

  pub near_is_type : (O Q : List LfType) (A : LfType) → IsType Σ O A → IsType Σ (onto O Q) A
  near_is_type O Q A t = subst (IsType Σ (onto O Q)) (rename_identity_type A) (renaming_keeps_types Σ ok O (onto O Q) (λ i. i) A (near_renames O Q) t)

  pub image_near : (O Q : List LfType) (x : Image) (A : LfType) → ImageHasType Σ O x A → ImageHasType Σ (onto O Q) x A
  image_near O Q (keep j) A k = near_type O Q j A k
  image_near O Q (put a N) A (e, k) = (e, near_typed O Q N A k)

  pub values_near : (U : ℕ → Bool) (C O Q : List LfType) (σ : ℕ → Image) → Values Σ U C O σ → Values Σ U C (onto O Q) σ
  values_near U C O Q σ v = record { typed = λ i A g u. image_near O Q (σ i) (substitute_type reduce σ A) (v.typed i A g u); closed = v.closed }

  pub onto_context : (O Q : List LfType) → IsContext Σ O → IsContext Σ Q → IsContext Σ (onto O Q)
  onto_context [] Q c d = d
  onto_context (A ∷ O) Q (c, t) d = (onto_context O Q c d, near_is_type O Q A t)

  -- a local context that moves with what stands outside
  pub local_renames : (D Q X : List LfType) (ρ : ℕ → ℕ) → IsTypedRenaming Q X ρ → IsTypedRenaming (onto D Q) (onto (renumber ρ D) X) (lift_renaming_by (length D) ρ)
  local_renames [] Q X ρ r = r
  local_renames (A ∷ D) Q X ρ r = renames_under_binder (onto D Q) (onto (renumber ρ D) X) (lift_renaming_by (length D) ρ) A (local_renames D Q X ρ r)

  pub local_context : (D Q X : List LfType) (ρ : ℕ → ℕ) → IsTypedRenaming Q X ρ → IsContext Σ (onto D Q) → IsContext Σ X → IsContext Σ (onto (renumber ρ D) X)
  local_context [] Q X ρ r c d = d
  local_context (A ∷ D) Q X ρ r (c, t) d = (local_context D Q X ρ r c d, renaming_keeps_types Σ ok (onto D Q) (onto (renumber ρ D) X) (lift_renaming_by (length D) ρ) A (local_renames D Q X ρ r) t)

-- they have the skeletons of the variables, where the given terms are typed
pub given_fits : (Σ : Signature) (O Q : List LfType) (Ms : List (Option Term)) → Values Σ (is_given Ms) Q (onto O Q) (given_images Q Ms (length O)) → SubstitutionBySkeletons (constant_skeletons Σ) (context_skeletons Q) (context_skeletons (onto O Q)) (given_images Q Ms (length O))
given_fits Σ O Q Ms v i t k = by (given_cases Q Ms (length O) i)
  where
    moved : (A : LfType) → TypeAt Q i A → skeleton A ≡ t → SkeletonAt (context_skeletons (onto O Q)) (i + length O) t
    moved A h e = subst (SkeletonAt (context_skeletons (onto O Q)) (i + length O)) (skeleton_renamed (shift_by (length O)) A ∙ e) (variable_has_skeleton (onto O Q) (i + length O) (rename_type (shift_by (length O)) A) (far_type O Q i A h))

    there : (A B : LfType) (M : Term) → TypeAt Q i A → skeleton A ≡ t → TypeAt Q i B → ImageHasType Σ (onto O Q) (put (skeleton B) M) (substitute_type reduce (given_images Q Ms (length O)) B) → ImageSkeleton (constant_skeletons Σ) (context_skeletons (onto O Q)) (put (skeleton B) M) t
    there A B M h e b (s, m) = (ap skeleton (variable_type_unique Q i B A b h) ∙ e, subst (TermSkeleton (constant_skeletons Σ) (context_skeletons (onto O Q)) M) s (typed_has_skeleton Σ (onto O Q) M (substitute_type reduce (given_images Q Ms (length O)) B) m))

    by : StandsForItself Q Ms (length O) i ⊎ StandsForGiven Q Ms (length O) i → ImageSkeleton (constant_skeletons Σ) (context_skeletons (onto O Q)) (given_images Q Ms (length O) i) t
    by (inl (q, n)) = let (A, h, e) = skeleton_has_variable Q i t k in subst (λ x. ImageSkeleton (constant_skeletons Σ) (context_skeletons (onto O Q)) x t) (sym q) (moved A h e)
    by (inr (B, M, b, m, q)) = let (A, h, e) = skeleton_has_variable Q i t k in subst (λ x. ImageSkeleton (constant_skeletons Σ) (context_skeletons (onto O Q)) x t) (sym q) (there A B M h e b (subst (λ x. ImageHasType Σ (onto O Q) x (substitute_type reduce (given_images Q Ms (length O)) B)) q (v.typed i B b (given_there Ms i M m))))

-- Values that give the variables the given terms' values do to a text of the clause what they do to it with the given terms put in.
module _ (Σ : Signature) (X Q F : List LfType) (g σ : ℕ → Image) (n : ℕ) (fg : SubstitutionBySkeletons (constant_skeletons Σ) (context_skeletons Q) (context_skeletons X) g) (fσ : SubstitutionBySkeletons (constant_skeletons Σ) (context_skeletons X) (context_skeletons F) σ) (same : (i : ℕ) → after σ g i ≡ σ (i + n)) where
  images_same : (D : List LfType) → after (lift_over D σ) (lift_over D g) ≡ (λ i. lift_over D σ (lift_renaming_by (length D) (shift_by n) i))
  images_same D = after_over D g σ ∙ ap (lift_over D) (fun_ext same) ∙ sym (lift_after D (shift_by n) σ)

  pub type_put : (D : List LfType) (A : LfType) → TypeBySkeletons (family_skeletons Σ) (constant_skeletons Σ) (context_skeletons (onto D Q)) A → substitute_type reduce (lift_over D σ) (substitute_type reduce (lift_over D g) A) ≡ substitute_type reduce (lift_over D σ) (rename_type (lift_renaming_by (length D) (shift_by n)) A)
  type_put D A k =
      substitutions_compose_type (family_skeletons Σ) (constant_skeletons Σ) (context_skeletons (onto D Q)) (context_skeletons (onto (instance D g) X)) (context_skeletons (onto (instance (instance D g) σ) F)) (lift_over D g) (lift_over D σ) A (lifted Σ D Q X g fg) (lifted_instance Σ X F D g σ fσ) k
      ∙ ap (λ f. substitute_type reduce f A) (images_same D)
      ∙ sym (substitute_renamed_type reduce (lift_over D σ) (lift_renaming_by (length D) (shift_by n)) A)

  pub spine_put : (D : List LfType) (S : Spine) (t u : Skeleton) → SpineSkeleton (constant_skeletons Σ) (context_skeletons (onto D Q)) S t u → substitute_spine reduce (lift_over D σ) (substitute_spine reduce (lift_over D g) S) ≡ substitute_spine reduce (lift_over D σ) (rename_spine (lift_renaming_by (length D) (shift_by n)) S)
  spine_put D S t u k =
      substitutions_compose_spine (constant_skeletons Σ) (context_skeletons (onto D Q)) (context_skeletons (onto (instance D g) X)) (context_skeletons (onto (instance (instance D g) σ) F)) (lift_over D g) (lift_over D σ) S t u (lifted Σ D Q X g fg) (lifted_instance Σ X F D g σ fσ) k
      ∙ ap (λ f. substitute_spine reduce f S) (images_same D)
      ∙ sym (substitute_renamed_spine reduce (lift_over D σ) (lift_renaming_by (length D) (shift_by n)) S)
