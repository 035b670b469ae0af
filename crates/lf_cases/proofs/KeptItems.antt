-- The variables of a clause that a goal keeps have the values of the clause.
use Rattle.std.proofs.Common.{◌≡◌, ℕ, zero, suc, List, [], ◌∷◌, refl, sym, ap, ◌∙◌, subst, true≢false}
use Rattle.std.specs.Prelude.{Bool, true, false, cond}
use Rattle.lf.specs.Syntax.{Term, LfType, Skeleton, skeleton, weaken, rename_type, lift_renaming}
use Rattle.lf.specs.Substitution.{Image, keep, put, substitute_type, reduce}
use Rattle.lf.specs.SkeletonTyping.{HeadSkeletons, SkeletonAt, TermSkeleton, SubstitutionBySkeletons}
use Rattle.lf.specs.Skeletons.{constant_skeletons, context_skeletons}
use Rattle.lf.specs.Typing.{Signature, TypeAt, HasType, ImageHasType}
use Rattle.lf.specs.AtOnce.{in_front}
use Rattle.lf.specs.Variables.{onto, UsesType}
use Rattle.lf.specs.Subordination.{Block}
use Rattle.lf.specs.Worlds.{World}
use Rattle.lf.proofs.Agreement.{agree_on_type}
use Rattle.lf.proofs.Kept.{uses_unren_type}
use Rattle.lf.proofs.ToSkeletons.{typed_has_skeleton}
use Rattle.lf.proofs.TypeLaws.{skeleton_renamed, skeleton_substituted, substitute_renamed_type}
use Rattle.lf_checks.specs.Clause.{among}
use Rattle.lf_checks.specs.Worlded.{IsTerm}
use Rattle.lf_cases.specs.Case.{Item, free_variable, IsGroundInstance, items_context, past_place}
use Rattle.lf_cases.specs.Pattern.{FirstInstance}
use Rattle.lf_cases.specs.OutputGoal.{kept_number, kept_items}
use Rattle.lf_cases.proofs.OutputItems.{in_front_fits}

-- what stands behind a list of types
abbrev pub behind {ℓ} : {A : Type ℓ} → List LfType → (ℕ → A) → ℕ → A
behind [] f = f
behind (A ∷ D) f = behind D (λ i. f (suc i))

module _ (Σ : Signature) {W : List Block} {S : ℕ → Bool} {G : List LfType} (w : World Σ W S G) where
  abbrev κ : HeadSkeletons
  κ = constant_skeletons Σ

  -- σ gives what is kept what τ gives it, numbered by ρ, and ρ keeps skeletons
  pub record KeptBy (C : List LfType) (U : ℕ → Bool) (σ : ℕ → Image) (ρ : ℕ → ℕ) (I : List Item) (τ : ℕ → Image) : Type 0 where
    pub fits : SubstitutionBySkeletons κ (context_skeletons (items_context I)) (context_skeletons G) τ
    pub same : (i : ℕ) → U i ≡ true → τ (ρ i) ≡ σ i
    pub skeletons : (i : ℕ) (t : Skeleton) → SkeletonAt (context_skeletons C) i t → U i ≡ true → SkeletonAt (context_skeletons (items_context I)) (ρ i) t

  abbrev pub KeptItems : List LfType → List LfType → (ℕ → Bool) → (ℕ → Image) → (ℕ → ℕ) → (I : List Item) (τ : ℕ → Image) → IsGroundInstance w I τ → Type 0
  KeptItems O D U σ ρ I τ g = (φ : ℕ → Image) × (gφ : IsGroundInstance w (kept_items U D ρ I) φ) × ((B : Block) (ψ : ℕ → Image) → FirstInstance w I τ g B ψ → FirstInstance w (kept_items U D ρ I) φ gφ B ψ) × KeptBy (onto D O) U σ (kept_number U D ρ) (kept_items U D ρ I) φ

  -- with the newest quantifier kept or not
  abbrev With : (O D : List LfType) (A : LfType) (U : ℕ → Bool) (σ : ℕ → Image) (ρ : ℕ → ℕ) (I : List Item) (τ : ℕ → Image) → IsGroundInstance w I τ → Bool → Type 0
  With O D A U σ ρ I τ g t = (φ : ℕ → Image) × (gφ : IsGroundInstance w (cond t (free_variable (rename_type (kept_number (λ i. U (suc i)) D ρ) A) ∷ kept_items (λ i. U (suc i)) D ρ I) (kept_items (λ i. U (suc i)) D ρ I)) φ) × ((B : Block) (ψ : ℕ → Image) → FirstInstance w I τ g B ψ → FirstInstance w (cond t (free_variable (rename_type (kept_number (λ i. U (suc i)) D ρ) A) ∷ kept_items (λ i. U (suc i)) D ρ I) (kept_items (λ i. U (suc i)) D ρ I)) φ gφ B ψ) × KeptBy (A ∷ onto D O) U σ (cond t (lift_renaming (kept_number (λ i. U (suc i)) D ρ)) (past_place (kept_number (λ i. U (suc i)) D ρ))) (cond t (free_variable (rename_type (kept_number (λ i. U (suc i)) D ρ) A) ∷ kept_items (λ i. U (suc i)) D ρ I) (kept_items (λ i. U (suc i)) D ρ I)) φ

  same_at : (U : ℕ → Bool) (σ : ℕ → Image) (x : Image) (φ : ℕ → Image) (r : ℕ → ℕ) → x ≡ σ zero → ((i : ℕ) → U (suc i) ≡ true → φ (r i) ≡ σ (suc i)) → (i : ℕ) → U i ≡ true → in_front x φ (lift_renaming r i) ≡ σ i
  same_at U σ x φ r p h zero u = p
  same_at U σ x φ r p h (suc i) u = h i u

  other_at : (U : ℕ → Bool) (σ : ℕ → Image) (φ : ℕ → Image) (r : ℕ → ℕ) → U zero ≡ false → ((i : ℕ) → U (suc i) ≡ true → φ (r i) ≡ σ (suc i)) → (i : ℕ) → U i ≡ true → φ (past_place r i) ≡ σ i
  other_at U σ φ r e h zero u = absurd (true≢false (sym u ∙ e))
  other_at U σ φ r e h (suc i) u = h i u

  skeleton_at : (U : ℕ → Bool) (Γ Δ : List Skeleton) (b a : Skeleton) (r : ℕ → ℕ) → b ≡ a → ((i : ℕ) (t : Skeleton) → SkeletonAt Γ i t → U (suc i) ≡ true → SkeletonAt Δ (r i) t) → (i : ℕ) (t : Skeleton) → SkeletonAt (a ∷ Γ) i t → U i ≡ true → SkeletonAt (b ∷ Δ) (lift_renaming r i) t
  skeleton_at U Γ Δ b a r p h zero t g u = p ∙ g
  skeleton_at U Γ Δ b a r p h (suc i) t g u = h i t g u

  other_skeleton : (U : ℕ → Bool) (Γ Δ : List Skeleton) (a : Skeleton) (r : ℕ → ℕ) → U zero ≡ false → ((i : ℕ) (t : Skeleton) → SkeletonAt Γ i t → U (suc i) ≡ true → SkeletonAt Δ (r i) t) → (i : ℕ) (t : Skeleton) → SkeletonAt (a ∷ Γ) i t → U i ≡ true → SkeletonAt Δ (past_place r i) t
  other_skeleton U Γ Δ a r e h zero t g u = absurd (true≢false (sym u ∙ e))
  other_skeleton U Γ Δ a r e h (suc i) t g u = h i t g u

  put_of : (x : Image) (X : LfType) → IsTerm x → ImageHasType Σ G x X → (N : Term) × (x ≡ put (skeleton X) N) × HasType Σ G N X
  put_of (keep j) X i t = absurd i
  put_of (put a N) X i (e, n) = (N, ap (λ s. put s N) (sym e), n)

  pub kept : (O D : List LfType) (U : ℕ → Bool) (σ : ℕ → Image) (ρ : ℕ → ℕ) (I : List Item) (τ : ℕ → Image) (g : IsGroundInstance w I τ) → ((i : ℕ) (X : LfType) → TypeAt (onto D O) i X → U i ≡ true → ImageHasType Σ G (σ i) (substitute_type reduce σ X)) → ((i : ℕ) (X : LfType) → TypeAt (onto D O) i X → U i ≡ true → UsesType U X) → ((i : ℕ) → among D i ≡ true → U i ≡ true → IsTerm (σ i)) → KeptBy O (behind D U) (behind D σ) ρ I τ → KeptItems O D U σ ρ I τ g
  kept O [] U σ ρ I τ g typed closed terms b = (τ, g, (λ B ψ z. z), b)
  kept O (A ∷ D) U σ ρ I τ g typed closed terms b = by (kept O D (λ i. U (suc i)) (λ i. σ (suc i)) ρ I τ g earlier_typed earlier_closed (λ i e u. terms (suc i) e u) b) (U zero) refl
    where
      earlier_typed : (i : ℕ) (X : LfType) → TypeAt (onto D O) i X → U (suc i) ≡ true → ImageHasType Σ G (σ (suc i)) (substitute_type reduce (λ j. σ (suc j)) X)
      earlier_typed i X h u = subst (ImageHasType Σ G (σ (suc i))) (substitute_renamed_type reduce σ suc X) (typed (suc i) (weaken X) (X, h, refl) u)

      earlier_closed : (i : ℕ) (X : LfType) → TypeAt (onto D O) i X → U (suc i) ≡ true → UsesType (λ j. U (suc j)) X
      earlier_closed i X h u = uses_unren_type (λ j. U (suc j)) U suc X (λ j v. v) (closed (suc i) (weaken X) (X, h, refl) u)

      by : KeptItems O D (λ i. U (suc i)) (λ i. σ (suc i)) ρ I τ g → (t : Bool) → U zero ≡ t → With O D A U σ ρ I τ g (U zero)
      by (φ, gφ, fi, k) true e =
          let r : ℕ → ℕ = kept_number (λ i. U (suc i)) D ρ in
          let J : List Item = kept_items (λ i. U (suc i)) D ρ I in
          let (N, p, n) = put_of (σ zero) (substitute_type reduce σ (weaken A)) (terms zero refl e) (typed zero (weaken A) refl e) in
          let q : substitute_type reduce σ (weaken A) ≡ substitute_type reduce φ (rename_type r A) = substitute_renamed_type reduce σ suc A ∙ sym (agree_on_type reduce (λ i. U (suc i)) (λ i. φ (r i)) (λ i. σ (suc i)) A k.same (uses_unren_type (λ j. U (suc j)) U suc A (λ j v. v) (closed zero (weaken A) refl e))) ∙ sym (substitute_renamed_type reduce φ r A) in
          let n' : HasType Σ G N (substitute_type reduce φ (rename_type r A)) = subst (HasType Σ G N) q n in
          let a : Skeleton = skeleton (rename_type r A) in
          let sn : TermSkeleton κ (context_skeletons G) N a = subst (TermSkeleton κ (context_skeletons G) N) (skeleton_substituted reduce φ (rename_type r A)) (typed_has_skeleton Σ G N (substitute_type reduce φ (rename_type r A)) n') in
          let p' : put a N ≡ σ zero = ap (λ s. put s N) (sym (skeleton_substituted reduce φ (rename_type r A)) ∙ ap skeleton (sym q)) ∙ sym p in
          subst (With O D A U σ ρ I τ g) (sym e) (
            in_front (put a N) φ,
            (N, φ, gφ, n', refl),
            fi,
            record {
              fits = in_front_fits κ (context_skeletons (items_context J)) (context_skeletons G) a N φ sn k.fits;
              same = λ i u. same_at U σ (put a N) φ r p' k.same i u;
              skeletons = λ i t h u. skeleton_at U (context_skeletons (onto D O)) (context_skeletons (items_context J)) a (skeleton A) r (skeleton_renamed r A) k.skeletons i t h u;
            },
          )
      by (φ, gφ, fi, k) false e = subst (With O D A U σ ρ I τ g) (sym e) (
        φ,
        gφ,
        fi,
        record {
          fits = k.fits;
          same = λ i u. other_at U σ φ (kept_number (λ i. U (suc i)) D ρ) e k.same i u;
          skeletons = λ i t h u. other_skeleton U (context_skeletons (onto D O)) (context_skeletons (items_context (kept_items (λ i. U (suc i)) D ρ I))) (skeleton A) (kept_number (λ i. U (suc i)) D ρ) e k.skeletons i t h u;
        },
      )
