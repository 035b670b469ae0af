-- A ground instance of typed items is a typed substitution.
use Rattle.std.proofs.Common.{◌≡◌, ℕ, zero, suc, List, [], ◌∷◌, refl, sym, ap, ◌∙◌, subst}
use Rattle.std.specs.Prelude.{Bool}
use Rattle.lf.specs.Syntax.{LfType, Skeleton, skeleton, weaken}
use Rattle.lf.specs.Substitution.{Image, keep, put, rename_image, substitute_image, substitute_type, reduce, after}
use Rattle.lf.specs.SkeletonTyping.{SubstitutionBySkeletons}
use Rattle.lf.specs.Skeletons.{constant_skeletons, family_skeletons, context_skeletons}
use Rattle.lf.specs.AtOnce.{in_front}
use Rattle.lf.specs.Typing.{Signature, TypeAt, ImageHasType, IsTypedSubstitution, IsType, IsContext, IsSignature}
use Rattle.lf.specs.Variables.{onto, everything}
use Rattle.lf.specs.Subordination.{Block, AreTypedBlocks}
use Rattle.lf.specs.Worlds.{World, lift_over, instance}
use Rattle.lf.specs.Extension.{Extends}
use Rattle.lf.proofs.Agreement.{agree_on_type}
use Rattle.lf.proofs.ExtensionTyping.{extension_keeps_types, extension_keeps_values}
use Rattle.lf.proofs.Kept.{typed_uses_type}
use Rattle.lf.proofs.Renaming.{substitute_renamed}
use Rattle.lf.proofs.SkeletonTypes.{substitutions_compose_type}
use Rattle.lf.proofs.Substitution.{typed_substitution_by_skeletons}
use Rattle.lf.proofs.ToSkeletons.{type_by_skeletons}
use Rattle.lf.proofs.TypeLaws.{skeleton_renamed, skeleton_substituted, substitute_renamed_type}
use Rattle.lf_cases.specs.Case.{Item, free_variable, block_variable, items_context, entries_in_front, behind_entries, as_term, IsGroundInstance}
use Rattle.lf_cases.specs.Missing.{AreTypedItems}
use Rattle.lf_cases.proofs.Instances.{instance_typed}
use Rattle.lf_cases.proofs.LongValues.{long_at, long_past, long_same}
use Rattle.lf_totality.proofs.OutputCases.{in_context, in_covers, in_type}
use Rattle.lf_cases.proofs.OutputItems.{lifted}
use Rattle.lf_coverage.proofs.Composing.{composed}
use mathlib.Core.Path.{fun_ext}

-- values that are the same as terms
pub long_equal : (O : List LfType) (σ τ : ℕ → Image) → ((i : ℕ) (A : LfType) → TypeAt O i A → as_term (skeleton A) (σ i) ≡ as_term (skeleton A) (τ i)) → (i : ℕ) (A : LfType) → TypeAt O i A → long_at O σ i ≡ long_at O τ i
long_equal [] σ τ h i A g = absurd g
long_equal (B ∷ O) σ τ h zero A g = ap (put (skeleton B)) (ap (λ a. as_term a (σ zero)) (sym (skeleton_renamed suc B)) ∙ h zero (weaken B) refl ∙ ap (λ a. as_term a (τ zero)) (skeleton_renamed suc B))
long_equal (B ∷ O) σ τ h (suc i) A (C, g, e) = long_equal O (λ j. σ (suc j)) (λ j. τ (suc j)) (λ j X k. ap (λ a. as_term a (σ (suc j))) (sym (skeleton_renamed suc X)) ∙ h (suc j) (weaken X) (X, k, refl) ∙ ap (λ a. as_term a (τ (suc j))) (skeleton_renamed suc X)) i C g

pub past_one : (x : Image) (f : ℕ → Image) (y : Image) → substitute_image (in_front x f) (rename_image suc y) ≡ substitute_image f y
past_one x f (keep i) = refl
past_one x f (put a N) = ap (put a) (substitute_renamed reduce (in_front x f) suc N)

-- values of the entries of a block and of what its `some` variables stand for
past_equal : (es O : List LfType) (θ υ τ : ℕ → Image) → ((i : ℕ) (A : LfType) → TypeAt O i A → as_term (skeleton A) (behind_entries es θ i) ≡ as_term (skeleton A) (after τ υ i)) → (i : ℕ) (A : LfType) → TypeAt (onto es O) i A → long_past es O (after (entries_in_front es θ τ) (lift_over es υ)) i ≡ long_past es O θ i
past_equal [] O θ υ τ h i A g = sym (long_equal O θ (after τ υ) h i A g)
past_equal (E ∷ es) O θ υ τ h zero A g = refl
past_equal (E ∷ es) O θ υ τ h (suc i) A (C, g, e) = ap (λ f. long_past es O f i) (fun_ext (λ j. past_one (θ zero) (entries_in_front es (λ k. θ (suc k)) τ) (lift_over es υ j))) ∙ past_equal es O (λ k. θ (suc k)) υ τ h i C g

module _ (Σ : Signature) (ok : IsSignature Σ) (W : List Block) (typed : AreTypedBlocks Σ W) where
  -- the types of a block's entries under these values
  entry_type : (es O C G : List LfType) (θ υ τ : ℕ → Image) → IsContext Σ (onto es O) → IsTypedSubstitution Σ O C υ → IsTypedSubstitution Σ (onto es O) G θ → IsTypedSubstitution Σ (onto (instance es υ) C) G (entries_in_front es θ τ) → ((i : ℕ) (A : LfType) → TypeAt O i A → as_term (skeleton A) (behind_entries es θ i) ≡ as_term (skeleton A) (after τ υ i)) → (E : LfType) → IsType Σ (onto es O) E → substitute_type reduce (entries_in_front es θ τ) (substitute_type reduce (lift_over es υ) E) ≡ substitute_type reduce θ E
  entry_type es O C G θ υ τ c u t f h E e =
      let φ : ℕ → Image = entries_in_front es θ τ in
      let σ : ℕ → Image = after φ (lift_over es υ) in
      let κ = constant_skeletons Σ in
      let Γ : List Skeleton = context_skeletons (onto es O) in
      let Δ : List Skeleton = context_skeletons G in
      let us : SubstitutionBySkeletons κ Γ (context_skeletons (onto (instance es υ) C)) (lift_over es υ) = lifted Σ es O C υ (typed_substitution_by_skeletons Σ ok O C υ u) in
      let fs : SubstitutionBySkeletons κ (context_skeletons (onto (instance es υ) C)) Δ φ = typed_substitution_by_skeletons Σ ok (onto (instance es υ) C) G φ f in
      let ts : SubstitutionBySkeletons κ Γ Δ θ = typed_substitution_by_skeletons Σ ok (onto es O) G θ t in
      let be = type_by_skeletons Σ (onto es O) E e in
      let σs : SubstitutionBySkeletons κ Γ Δ σ = composed κ Γ (context_skeletons (onto (instance es υ) C)) Δ (lift_over es υ) φ us fs in
      substitutions_compose_type (family_skeletons Σ) κ Γ (context_skeletons (onto (instance es υ) C)) Δ (lift_over es υ) φ E us fs be
      ∙ sym (long_same κ (family_skeletons Σ) es O Δ σ E σs be)
      ∙ agree_on_type reduce (in_context (onto es O)) (long_past es O σ) (long_past es O θ) E (λ i u. let (A, g) = in_type (onto es O) i u in past_equal es O θ υ τ h i A g) (typed_uses_type Σ (onto es O) (in_context (onto es O)) E (in_covers (onto es O)) e)
      ∙ long_same κ (family_skeletons Σ) es O Δ θ E ts be

  -- one more value in front
  pub front_typed : (C G : List LfType) (X : LfType) (x : Image) (τ : ℕ → Image) → IsTypedSubstitution Σ C G τ → ImageHasType Σ G x (substitute_type reduce τ X) → IsTypedSubstitution Σ (X ∷ C) G (in_front x τ)
  front_typed C G X x τ t h zero A e = subst (ImageHasType Σ G x) (sym (ap (substitute_type reduce (in_front x τ)) e ∙ substitute_renamed_type reduce (in_front x τ) suc X)) h
  front_typed C G X x τ t h (suc i) A (B, g, e) = subst (ImageHasType Σ G (τ i)) (sym (ap (substitute_type reduce (in_front x τ)) e ∙ substitute_renamed_type reduce (in_front x τ) suc B)) (t i B g)

  pub behind_one : (C G : List LfType) (X : LfType) (θ : ℕ → Image) → IsTypedSubstitution Σ (X ∷ C) G θ → IsTypedSubstitution Σ C G (λ i. θ (suc i))
  behind_one C G X θ t i A g = subst (ImageHasType Σ G (θ (suc i))) (substitute_renamed_type reduce θ suc A) (t (suc i) (weaken A) (A, g, refl))

  entries_typed : (es O C G : List LfType) (θ υ τ : ℕ → Image) → IsContext Σ (onto es O) → IsTypedSubstitution Σ O C υ → IsTypedSubstitution Σ (onto es O) G θ → IsTypedSubstitution Σ C G τ → ((i : ℕ) (A : LfType) → TypeAt O i A → as_term (skeleton A) (behind_entries es θ i) ≡ as_term (skeleton A) (after τ υ i)) → IsTypedSubstitution Σ (onto (instance es υ) C) G (entries_in_front es θ τ)
  entries_typed [] O C G θ υ τ c u t s h = s
  entries_typed (E ∷ es) O C G θ υ τ c u t s h =
      let θ' : ℕ → Image = λ i. θ (suc i) in
      let t' : IsTypedSubstitution Σ (onto es O) G θ' = behind_one (onto es O) G E θ t in
      let f : IsTypedSubstitution Σ (onto (instance es υ) C) G (entries_in_front es θ' τ) = entries_typed es O C G θ' υ τ c.0 u t' s h in
      front_typed (onto (instance es υ) C) G (substitute_type reduce (lift_over es υ) E) (θ zero) (entries_in_front es θ' τ) f
      (subst (ImageHasType Σ G (θ zero)) (substitute_renamed_type reduce θ suc E ∙ sym (entry_type es O C G θ' υ τ c.0 u t' f h E c.1)) (t zero (weaken E) refl))

  -- The lemma
  pub ground_typed : {S : ℕ → Bool} {G : List LfType} (w : World Σ W S G) (I : List Item) (σ : ℕ → Image) → AreTypedItems Σ W I → IsGroundInstance w I σ → IsTypedSubstitution Σ (items_context I) G σ
  ground_typed w [] σ a g = λ i A x. absurd x
  ground_typed {G = G} w (free_variable A ∷ I) σ (a, t) (N, τ, g, n, e) = subst (IsTypedSubstitution Σ (A ∷ items_context I) G) (sym e) (front_typed (items_context I) G A (put (skeleton A) N) τ (ground_typed w I τ a g) (skeleton_substituted reduce τ A, n))
  ground_typed {G = G} w (block_variable B υ ∷ I) σ (a, m, v) (θ, τ, g, i, s, e) =
      subst (IsTypedSubstitution Σ (onto (instance B.entries υ) (items_context I)) G) (sym e)
      (entries_typed B.entries B.some (items_context I) G θ υ τ (typed B m) (λ j X k. v.typed j X k refl) (λ j X k. (instance_typed Σ ok w B θ i).typed.typed j X k refl) (ground_typed w I τ a g) s)

-- the items are typed in each extension
pub items_extended : (S : ℕ → Bool) (Σ Σ' : Signature) (x : Extends S Σ Σ') (W : List Block) (I : List Item) → AreTypedItems Σ W I → AreTypedItems Σ' W I
items_extended S Σ Σ' x W [] a = tt
items_extended S Σ Σ' x W (free_variable A ∷ I) (a, t) = (items_extended S Σ Σ' x W I a, extension_keeps_types S Σ Σ' x (items_context I) A t)
items_extended S Σ Σ' x W (block_variable B υ ∷ I) (a, m, v) = (items_extended S Σ Σ' x W I a, m, extension_keeps_values S Σ Σ' x everything B.some (items_context I) υ v)
