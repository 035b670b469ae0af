-- A new block variable, with new variables for its `some` terms, in front of items: it stands for an instance of the context.
use Rattle.std.proofs.Common.{◌≡◌, ℕ, zero, suc, List, [], ◌∷◌, ◌+◌, length, refl, sym, ap, ◌∙◌, subst, arith}
use Rattle.std.specs.Prelude.{Bool, true}
use Rattle.lf.specs.Syntax.{LfType, skeleton, weaken, rename_type}
use Rattle.lf.specs.Substitution.{Image, keep, put, substitute_type, reduce}
use Rattle.lf.specs.Skeletons.{constant_skeletons, family_skeletons, context_skeletons}
use Rattle.lf.specs.AtOnce.{in_front, shift_by}
use Rattle.lf.specs.Typing.{Signature, TypeAt, HasType, ImageHasType, IsTypedSubstitution, IsType, IsContext, IsSignature}
use Rattle.lf.specs.Variables.{onto, everything}
use Rattle.lf.specs.Subordination.{Block, Member, AreTypedBlocks}
use Rattle.lf.specs.Worlds.{World, instance}
use Rattle.lf.proofs.Agreement.{agree_on_type}
use Rattle.lf.proofs.Kept.{typed_uses_type}
use Rattle.lf.proofs.Partial.{uses_type_all}
use Rattle.lf.proofs.Substitution.{typed_substitution_by_skeletons}
use Rattle.lf.proofs.ToSkeletons.{type_by_skeletons}
use Rattle.lf.proofs.TypeLaws.{skeleton_renamed, skeleton_substituted, substitute_renamed_type, renamings_compose_type, substitute_identity_type}
use Rattle.lf.proofs.Weakening.{renaming_keeps_types}
use Rattle.lf.proofs.Worlds.{world_is_context}
use Rattle.lf_checks.specs.Tests.{choose}
use Rattle.lf_cases.specs.Cover.{InstanceIn}
use Rattle.lf_cases.specs.Case.{Item, free_variable, block_variable, items_context, entries_in_front, behind_entries, as_term, IsGroundInstance}
use Rattle.lf_cases.specs.Pattern.{FirstInstance, has_block_variable}
use Rattle.lf_cases.specs.OutputGoal.{free_variables}
use Rattle.lf_cases.specs.Split.{StandsFor}
use Rattle.lf_cases.specs.Missing.{AreTypedItems}
use Rattle.lf_cases.specs.Reached.{items_onto, with_block}
use Rattle.lf_cases.proofs.Instances.{instance_typed}
use Rattle.lf_cases.proofs.LongValues.{long_at, long_same, term_typed}
use Rattle.lf_totality.proofs.OutputCases.{in_context, in_covers}
use Rattle.lf_cases.proofs.OutputItems.{Follows, length_instance}
use Rattle.lf_cases.proofs.Raised.{rename_identity_type}
use Rattle.lf_coverage.proofs.Forms.{far_type, near_type}
use Rattle.lf_coverage.proofs.ItemsContext.{outer_context}
use Rattle.lf_coverage.proofs.SameInstance.{front_behind}
use mathlib.Core.Path.{fun_ext}

-- the terms of some values, in front of others
abbrev pub front_long : List LfType → (ℕ → Image) → (ℕ → Image) → ℕ → Image
front_long [] s τ = τ
front_long (A ∷ O) s τ = in_front (put (skeleton A) (as_term (skeleton A) (s zero))) (front_long O (λ i. s (suc i)) τ)

front_is_long : (O : List LfType) (s τ : ℕ → Image) (i : ℕ) → in_context O i ≡ true → front_long O s τ i ≡ long_at O s i
front_is_long [] s τ i e = absurd cc
front_is_long (A ∷ O) s τ zero e = refl
front_is_long (A ∷ O) s τ (suc i) e = front_is_long O (λ j. s (suc j)) τ i e

pub front_past : (O : List LfType) (s τ : ℕ → Image) (i : ℕ) → front_long O s τ (i + length O) ≡ τ i
front_past [] s τ i = ap τ (none i)
  where
    none : (i : ℕ) → i + 0 ≡ i
    none i = omega arith
front_past (A ∷ O) s τ i = ap (front_long (A ∷ O) s τ) (next i (length O)) ∙ front_past O (λ j. s (suc j)) τ i
  where
    next : (i n : ℕ) → i + suc n ≡ suc (i + n)
    next i n = omega arith

-- the value of a `some` variable, as a term
pub front_term : (O : List LfType) (s τ : ℕ → Image) (i : ℕ) (A : LfType) → TypeAt O i A → as_term (skeleton A) (s i) ≡ as_term (skeleton A) (front_long O s τ i)
front_term [] s τ i A g = absurd g
front_term (B ∷ O) s τ zero A g = ap (λ a. as_term a (s zero)) (ap skeleton g ∙ skeleton_renamed suc B)
front_term (B ∷ O) s τ (suc i) A (C, g, e) = ap (λ a. as_term a (s (suc i))) (ap skeleton e ∙ skeleton_renamed suc C) ∙ front_term O (λ j. s (suc j)) τ i C g ∙ ap (λ a. as_term a (front_long O (λ j. s (suc j)) τ i)) (sym (ap skeleton e ∙ skeleton_renamed suc C))

pub some_items : (O : List LfType) (I : List Item) → items_context (items_onto (free_variables O) I) ≡ onto O (items_context I)
some_items [] I = refl
some_items (A ∷ O) I = ap (λ C. A ∷ C) (some_items O I)

some_blocks : (O : List LfType) (I : List Item) → has_block_variable (items_onto (free_variables O) I) ≡ has_block_variable I
some_blocks [] I = refl
some_blocks (A ∷ O) I = some_blocks O I

pub first_has : {Σ : Signature} {W : List Block} {S : ℕ → Bool} {G : List LfType} (w : World Σ W S G) (I : List Item) (σ : ℕ → Image) (g : IsGroundInstance w I σ) (B : Block) (θ : ℕ → Image) → FirstInstance w I σ g B θ → has_block_variable I ≡ true
first_has w [] σ g B θ f = absurd f
first_has w (free_variable A ∷ I) σ (N, τ, g, t, e) B θ f = first_has w I τ g B θ f
first_has w (block_variable C υ ∷ I) σ g B θ f = refl

pub some_values : (Σ : Signature) (G ds O : List LfType) (θ : ℕ → Image) → IsTypedSubstitution Σ (onto ds O) G θ → IsTypedSubstitution Σ O G (behind_entries ds θ)
some_values Σ G [] O θ h i A g = h i A g
some_values Σ G (D ∷ ds) O θ h i A g = some_values Σ G ds O (λ j. θ (suc j)) (λ j X k. subst (ImageHasType Σ G (θ (suc j))) (substitute_renamed_type reduce θ suc X) (h (suc j) (weaken X) (X, k, refl))) i A g

-- Typed
some_typed : (Σ : Signature) → IsSignature Σ → (W : List Block) (O : List LfType) (I : List Item) → IsContext Σ O → AreTypedItems Σ W I → AreTypedItems Σ W (items_onto (free_variables O) I)
some_typed Σ ok W [] I c a = a
some_typed Σ ok W (A ∷ O) I (c, t) a = (some_typed Σ ok W O I c a, subst (λ C. IsType Σ C A) (sym (some_items O I)) (subst (IsType Σ (onto O (items_context I))) (rename_identity_type A) (renaming_keeps_types Σ ok O (onto O (items_context I)) (λ i. i) A (λ i X g. subst (TypeAt (onto O (items_context I)) i) (sym (rename_identity_type X)) (near_type O (items_context I) i X g)) t)))

pub block_typed : (Σ : Signature) → IsSignature Σ → (W : List Block) → AreTypedBlocks Σ W → (B : Block) → Member B W → (I : List Item) → AreTypedItems Σ W I → AreTypedItems Σ W (with_block B I)
block_typed Σ ok W b B m I a = (
  some_typed Σ ok W B.some I (outer_context Σ B.entries B.some (b B m)) a,
  m,
  record {
    typed = λ i A g u. subst (TypeAt (items_context (items_onto (free_variables B.some) I)) i) (sym (substitute_identity_type reduce A)) (subst (λ C. TypeAt C i A) (sym (some_items B.some I)) (near_type B.some (items_context I) i A g));
    closed = λ i A g u. uses_type_all everything A (λ j. refl);
  },
)

-- a variable of the items is moved over what is new
pub moved_at : (B : Block) (I : List Item) (x : ℕ) (X : LfType) → TypeAt (items_context I) x X → TypeAt (items_context (with_block B I)) (x + (length B.some + length B.entries)) (rename_type (shift_by (length B.some + length B.entries)) X)
moved_at B I x X g =
    let O : List LfType = B.some in
    let E : List LfType = instance B.entries keep in
    let C : List LfType = items_context I in
    let h : TypeAt (onto E (onto O C)) ((x + length O) + length E) (rename_type (shift_by (length E)) (rename_type (shift_by (length O)) X)) = far_type E (onto O C) (x + length O) (rename_type (shift_by (length O)) X) (far_type O C x X g) in
    let l : length E ≡ length B.entries = length_instance B.entries keep in
    let q : rename_type (shift_by (length E)) (rename_type (shift_by (length O)) X) ≡ rename_type (shift_by (length O + length B.entries)) X = renamings_compose_type (shift_by (length E)) (shift_by (length O)) X ∙ ap (λ ρ. rename_type ρ X) (fun_ext (λ i. ap (λ n. (i + length O) + n) l ∙ sums i (length O) (length B.entries))) in
    subst (λ Y. TypeAt (onto E Y) (x + (length O + length B.entries)) (rename_type (shift_by (length O + length B.entries)) X)) (sym (some_items O I))
    (subst (λ k. TypeAt (onto E (onto O C)) k (rename_type (shift_by (length O + length B.entries)) X)) (ap (λ n. (x + length O) + n) l ∙ sums x (length O) (length B.entries)) (subst (TypeAt (onto E (onto O C)) ((x + length O) + length E)) q h))
  where
    sums : (i m n : ℕ) → (i + m) + n ≡ i + (m + n)
    sums i m n = omega arith

module _ (Σ : Signature) (ok : IsSignature Σ) (W : List Block) (typed : AreTypedBlocks Σ W) {S : ℕ → Bool} {G : List LfType} (w : World Σ W S G) where
  -- nothing new stands for an instance
  abbrev Same : (I : List Item) (τ : ℕ → Image) → IsGroundInstance w I τ → (J : List Item) (φ : ℕ → Image) → IsGroundInstance w J φ → Type 0
  Same I τ g J φ h = Follows w I τ g J φ h × ((B : Block) (θ : ℕ → Image) → StandsFor w J φ h B θ → StandsFor w I τ g B θ)

  pub some_on : (O : List LfType) (s : ℕ → Image) → IsContext Σ O → IsTypedSubstitution Σ O G s → (I : List Item) (τ : ℕ → Image) (g : IsGroundInstance w I τ) → (h : IsGroundInstance w (items_onto (free_variables O) I) (front_long O s τ)) × Same I τ g (items_onto (free_variables O) I) (front_long O s τ) h
  some_on [] s c t I τ g = (g, (((λ B ψ z. z), (λ z. z)), (λ B θ z. z)))
  some_on (A ∷ O) s (c, a) t I τ g =
      let r : ℕ → Image = λ i. s (suc i) in
      let t' : IsTypedSubstitution Σ O G r = λ i B k. subst (ImageHasType Σ G (r i)) (substitute_renamed_type reduce s suc B) (t (suc i) (weaken B) (B, k, refl)) in
      let q : substitute_type reduce (front_long O r τ) A ≡ substitute_type reduce r A = agree_on_type reduce (in_context O) (front_long O r τ) (long_at O r) A (λ i u. front_is_long O r τ i u) (typed_uses_type Σ O (in_context O) A (in_covers O) a) ∙ long_same (constant_skeletons Σ) (family_skeletons Σ) [] O (context_skeletons G) r A (typed_substitution_by_skeletons Σ ok O G r t') (type_by_skeletons Σ O A a) in
      let n : HasType Σ G (as_term (skeleton A) (s zero)) (substitute_type reduce r A) = term_typed Σ ok G (world_is_context w) (skeleton A) (s zero) (substitute_type reduce r A) (skeleton_substituted reduce r A) (subst (ImageHasType Σ G (s zero)) (substitute_renamed_type reduce s suc A) (t zero (weaken A) refl)) in
      let (h, f) = some_on O r c t' I τ g in
      ((as_term (skeleton A) (s zero), front_long O r τ, h, subst (HasType Σ G (as_term (skeleton A) (s zero))) (sym q) n, refl), f)

  -- The values of the items with a new block variable, which stands for θ.
  abbrev pub block_values : Block → (ℕ → Image) → (ℕ → Image) → ℕ → Image
  block_values B θ τ = entries_in_front B.entries θ (front_long B.some (behind_entries B.entries θ) τ)

  pub block_on : (B : Block) → Member B W → (θ : ℕ → Image) → InstanceIn w B θ → (I : List Item) (τ : ℕ → Image) (g : IsGroundInstance w I τ) → (StandsFor w I τ g B θ → ⊥) → (h : IsGroundInstance w (with_block B I) (block_values B θ τ)) × Follows w I τ g (with_block B I) (block_values B θ τ) h
  block_on B m θ i I τ g new =
      let O : List LfType = B.some in
      let υ : ℕ → Image = behind_entries B.entries θ in
      let (h, f) = some_on O υ (outer_context Σ B.entries O (typed B m)) (some_values Σ G B.entries O θ (λ k X z. (instance_typed Σ ok w B θ i).typed.typed k X z refl)) I τ g in
      ((θ, front_long O υ τ, h, i, (λ k A z. front_term O υ τ k A z), refl), (first h (f.0.0), (λ d. ((λ z. new (f.1 B θ z)), f.0.1 d))))
    where
      first : (h : IsGroundInstance w (items_onto (free_variables B.some) I) (front_long B.some (behind_entries B.entries θ) τ)) → ((C : Block) (ψ : ℕ → Image) → FirstInstance w I τ g C ψ → FirstInstance w (items_onto (free_variables B.some) I) (front_long B.some (behind_entries B.entries θ) τ) h C ψ) → (C : Block) (ψ : ℕ → Image) → FirstInstance w I τ g C ψ → choose (has_block_variable (items_onto (free_variables B.some) I)) (FirstInstance w (items_onto (free_variables B.some) I) (front_long B.some (behind_entries B.entries θ) τ) h C ψ) ((B ≡ C) × (θ ≡ ψ))
      first h f C ψ z = subst (λ b. choose b (FirstInstance w (items_onto (free_variables B.some) I) (front_long B.some (behind_entries B.entries θ) τ) h C ψ) ((B ≡ C) × (θ ≡ ψ))) (sym (some_blocks B.some I ∙ first_has w I τ g C ψ z)) (f C ψ z)

  pub block_keeps : (B : Block) (θ τ : ℕ → Image) (i : ℕ) → block_values B θ τ (i + (length B.some + length B.entries)) ≡ τ i
  block_keeps B θ τ i = ap (block_values B θ τ) (sums i (length B.some) (length B.entries)) ∙ front_behind B.entries θ (front_long B.some (behind_entries B.entries θ) τ) (i + length B.some) ∙ front_past B.some (behind_entries B.entries θ) τ i
    where
      sums : (i m n : ℕ) → i + (m + n) ≡ (i + m) + n
      sums i m n = omega arith
