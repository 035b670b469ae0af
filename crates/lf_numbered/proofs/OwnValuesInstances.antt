-- Instances of block variables are read back.
use Rattle.std.proofs.Common.{◌≡◌, ℕ, zero, suc, List, [], ◌∷◌, length, Option, refl, sym, ap, ap₂, ◌∙◌, subst}
use Rattle.std.specs.Prelude.{Bool}
use Rattle.lf.specs.Eta.{add_last}
use Rattle.lf.specs.SkeletonTyping.{HeadSkeletons, ImageSkeleton, TermSkeleton, SubstitutionBySkeletons}
use Rattle.lf.specs.Skeletons.{constant_skeletons, context_skeletons}
use Rattle.lf.specs.Subordination.{Block}
use Rattle.lf.specs.Substitution.{Image, keep, put, substitute, substitute_spine, substitute_image, reduce}
use Rattle.lf.specs.Syntax.{variable, Term, Spine, app, nil, LfType, Skeleton, skeleton, weaken, rename, rename_spine}
use Rattle.lf.specs.Typing.{Signature, TypeAt, IsTypedSubstitution, IsSignature}
use Rattle.lf.specs.Worlds.{World}
use Rattle.lf.proofs.AtOnce.{eta_long_has_skeleton}
use Rattle.lf.proofs.SkeletonTyping.{substitution_keeps_skeletons}
use Rattle.lf.proofs.Substitution.{typed_substitution_by_skeletons}
use Rattle.lf.proofs.ToSkeletons.{skeleton_has_variable, variable_has_skeleton}
use Rattle.lf.proofs.TypeLaws.{skeleton_renamed}
use Rattle.lf_cases.specs.Case.{as_term}
use Rattle.lf_numbered.specs.NumberedCase.{some_spine, AreTypedBlockVariables, AreInstances}
use Rattle.lf_numbered.specs.OwnTerms.{BlockVariable, put_in_blocks}
use Rattle.lf_numbered.specs.OwnValuesReading.{AreReadBack, AreReadInstances, InstancesAreReadBack}
use Rattle.lf_numbered.specs.Reading.{read, read_spine, entry_reading}
use Rattle.lf_numbered.proofs.EntryValues.{read_add as read_last, put_add as put_last}
use Rattle.lf_numbered.proofs.OwnValuesTerms.{spine_after}

-- A change of each term of a spine, one by one
rename_last : (ρ : ℕ → ℕ) (S : Spine) (N : Term) → rename_spine ρ (add_last S N) ≡ add_last (rename_spine ρ S) (rename ρ N)
rename_last ρ nil N = refl
rename_last ρ (app M S) N = ap (app (rename ρ M)) (rename_last ρ S N)

-- two such changes are the same where they are so on each term
pub some_mapped : (H K : Spine → Spine) (h k : Term → Term) → H nil ≡ K nil → ((S : Spine) (N : Term) → H (add_last S N) ≡ add_last (H S) (h N)) → ((S : Spine) (N : Term) → K (add_last S N) ≡ add_last (K S) (k N)) → (O : List LfType) (υ : ℕ → Image) → ((i : ℕ) (A : LfType) → TypeAt O i A → h (as_term (skeleton A) (υ i)) ≡ k (as_term (skeleton A) (υ i))) → H (some_spine O υ) ≡ K (some_spine O υ)
some_mapped H K h k e p q [] υ s = e
some_mapped H K h k e p q (A ∷ O) υ s =
    let S : Spine = some_spine O (λ i. υ (suc i)) in
    let N : Term = as_term (skeleton A) (υ zero) in
    p S N
    ∙ ap₂ add_last (some_mapped H K h k e p q O (λ i. υ (suc i)) (λ i B g. subst (λ a. h (as_term a (υ (suc i))) ≡ k (as_term a (υ (suc i)))) (skeleton_renamed suc B) (s (suc i) (weaken B) (B, g, refl)))) (subst (λ a. h (as_term a (υ zero)) ≡ k (as_term a (υ zero))) (skeleton_renamed suc A) (s zero (weaken A) refl))
    ∙ sym (q S N)

pub term_fits : (κ : HeadSkeletons) (Γ : List Skeleton) (a : Skeleton) (x : Image) → ImageSkeleton κ Γ x a → TermSkeleton κ Γ (as_term a x) a
term_fits κ Γ a (keep j) g = eta_long_has_skeleton κ Γ a (variable j) g
term_fits κ Γ a (put b N) (e, n) = subst (TermSkeleton κ Γ N) e n

module _ (Σ₁ Σ' : Signature) (ok₁ : IsSignature Σ₁) (W V : List Block) (S : ℕ → Bool) (X O F G : List LfType) (w : World Σ' V S G) (first : ℕ) (Bs : List Block) (θ : ℕ → ℕ → Image) (f : ℕ → Option (ℕ × ℕ)) (ρ : ℕ → ℕ) (α ι τ : ℕ → Image) (sα : IsTypedSubstitution Σ₁ X O α) (sι : IsTypedSubstitution Σ₁ O F ι) (same : (i : ℕ) (A : LfType) → TypeAt X i A → τ i ≡ substitute_image ι (α i)) (r : AreReadBack Σ₁ Σ' first Bs θ f ρ O G ι) (p : ℕ → Option Spine) where
  abbrev κ : HeadSkeletons
  κ = constant_skeletons Σ₁

  fα : SubstitutionBySkeletons (constant_skeletons Σ₁) (context_skeletons X) (context_skeletons O) α
  fα = typed_substitution_by_skeletons Σ₁ ok₁ X O α sα

  -- the terms of a block variable
  terms_back : (B : List LfType) (υ : ℕ → Image) → IsTypedSubstitution Σ₁ B X υ → substitute_spine reduce r.values (read_spine (entry_reading first Bs θ (length O)) (substitute_spine reduce α (some_spine B υ))) ≡ rename_spine ρ (read_spine f (substitute_spine reduce ι (substitute_spine reduce α (some_spine B υ))))
  terms_back B υ s =
      let g : ℕ → Option (ℕ × ℕ) = entry_reading first Bs θ (length O) in
      some_mapped (λ T. substitute_spine reduce r.values (read_spine g (substitute_spine reduce α T))) (λ T. rename_spine ρ (read_spine f (substitute_spine reduce ι (substitute_spine reduce α T)))) (λ N. substitute reduce r.values (read g (substitute reduce α N))) (λ N. rename ρ (read f (substitute reduce ι (substitute reduce α N)))) refl
      (λ T N. ap (λ Y. substitute_spine reduce r.values (read_spine g Y)) (put_last α T N) ∙ ap (substitute_spine reduce r.values) (read_last g (substitute_spine reduce α T) (substitute reduce α N)) ∙ put_last r.values (read_spine g (substitute_spine reduce α T)) (read g (substitute reduce α N)))
      (λ T N. ap (λ Y. rename_spine ρ (read_spine f (substitute_spine reduce ι Y))) (put_last α T N) ∙ ap (λ Y. rename_spine ρ (read_spine f Y)) (put_last ι (substitute_spine reduce α T) (substitute reduce α N)) ∙ ap (rename_spine ρ) (read_last f (substitute_spine reduce ι (substitute_spine reduce α T)) (substitute reduce ι (substitute reduce α N))) ∙ rename_last ρ (read_spine f (substitute_spine reduce ι (substitute_spine reduce α T))) (read f (substitute reduce ι (substitute reduce α N))))
      B υ
      (λ i A h. r.same (substitute reduce α (as_term (skeleton A) (υ i))) (skeleton A) (substitution_keeps_skeletons κ (context_skeletons X) (context_skeletons O) α (as_term (skeleton A) (υ i)) (skeleton A) fα (term_fits κ (context_skeletons X) (skeleton A) (υ i) (typed_substitution_by_skeletons Σ₁ ok₁ B X υ s i (skeleton A) (variable_has_skeleton B i A h)))))

  instances_back : (k : ℕ) (bs : List BlockVariable) → AreTypedBlockVariables Σ₁ W X p bs → AreReadInstances w f ρ τ θ k bs → AreInstances w (entry_reading first Bs θ (length O)) r.values θ k (put_in_blocks α bs)
  instances_back k [] t i = tt
  instances_back k (b ∷ bs) (m, (υ, s, e), q, t) (i, z, is) = (
    i,
    z
        ∙ ap (λ U. rename_spine ρ (read_spine f (substitute_spine reduce τ U))) e
        ∙ ap (λ U. rename_spine ρ (read_spine f U)) (sym (spine_after κ (context_skeletons X) (context_skeletons O) (context_skeletons F) α ι τ fα (typed_substitution_by_skeletons Σ₁ ok₁ O F ι sι) (λ j u g. let (B, h, x) = skeleton_has_variable X j u g in same j B h) b.block.some υ (typed_substitution_by_skeletons Σ₁ ok₁ b.block.some X υ s)))
        ∙ sym (terms_back b.block.some υ s)
        ∙ ap (λ U. substitute_spine reduce r.values (read_spine (entry_reading first Bs θ (length O)) (substitute_spine reduce α U))) (sym e),
    instances_back (suc k) bs t is,
  )

pub instances_are_read_back : InstancesAreReadBack
instances_are_read_back Σ₁ Σ' ok₁ W V S X O F G w first Bs θ f ρ α ι τ sα sι same r p bs t i = instances_back Σ₁ Σ' ok₁ W V S X O F G w first Bs θ f ρ α ι τ sα sι same r p zero bs t i
