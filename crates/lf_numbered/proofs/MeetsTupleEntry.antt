-- What a block variable of a case gives for what stands before an entry: typed terms, on own terms, which its instance makes those of the instance.
use Rattle.std.proofs.Common.{◌≡◌, ℕ, zero, suc, ◌+◌, List, [], ◌∷◌, length, refl, sym, ap, ◌∙◌, subst}
use Rattle.std.specs.Prelude.{Bool, Option, Some}
use Rattle.lf.specs.Syntax.{constant, Term, Spine, LfType, Skeleton, skeleton, weaken}
use Rattle.lf.specs.Substitution.{Image, put, substitute_image}
use Rattle.lf.specs.Eta.{eta_expand}
use Rattle.lf.specs.Typing.{Signature, TypeAt, IsTypedSubstitution, IsSignature}
use Rattle.lf.specs.Variables.{onto}
use Rattle.lf.specs.Subordination.{Block, AreTypedBlocks}
use Rattle.lf.specs.Worlds.{World}
use Rattle.lf.specs.Extension.{Extends}
use Rattle.lf.proofs.TypeLaws.{skeleton_renamed}
use Rattle.lf_cases.specs.Case.{as_term}
use Rattle.lf_cases.specs.Cover.{before}
use Rattle.lf_coverage.proofs.BeforeEntry.{before_typed}
use Rattle.lf_numbered.specs.EntryConstants.{entry_images, with_entries, IsFreeFrom}
use Rattle.lf_numbered.specs.EntryPatterns.{some_images, variable_images}
use Rattle.lf_numbered.specs.NumberedCallsStores.{Identifies}
use Rattle.lf_numbered.specs.NumberedCase.{NumberedCase, IsNumberedInstance, value_in}
use Rattle.lf_numbered.specs.NumberedInstance.{block_at, first_constant, moved_constant, move_spine}
use Rattle.lf_numbered.specs.OwnTerms.{blocks_of, own_terms, OnOwnTerms, ImageOnOwnTerms}
use Rattle.lf_numbered.specs.Reading.{entry_reading}
use Rattle.lf_numbered.specs.TypedNumbered.{IsTypedNumberedCase}
use Rattle.lf_numbered.specs.WritingRoom.{move_image}
use Rattle.lf_numbered.proofs.EntryPatternsNear.{before_images}
use Rattle.lf_numbered.proofs.EntryPatternsOutside.{some_images_are, variable_is_instance}
use Rattle.lf_numbered.proofs.EntryPatternsTyped.{typed_at, variable_is_typed}
use Rattle.lf_numbered.proofs.EntrySignature.{with_entries_is_signature}
use Rattle.lf_numbered.proofs.IdentifiedConstants.{variable_stays}
use Rattle.lf_numbered.proofs.MovedConstants.{onto_twice}
use Rattle.lf_numbered.proofs.NumberedTypedFree.{among_worlds}
use Rattle.lf_numbered.proofs.Reading.{read_image}

-- the number among all the variables of a block of one that stands before the entry
abbrev pub before_number : List LfType → ℕ → ℕ
before_number [] j = suc j
before_number (D ∷ later) j = suc (before_number later j)

before_is : (later : List LfType) (ψ : ℕ → Image) (j : ℕ) → before later ψ j ≡ ψ (before_number later j)
before_is [] ψ j = refl
before_is (D ∷ later) ψ j = before_is later (λ i. ψ (suc i)) j

before_type : (later : List LfType) (E : LfType) (L : List LfType) (j : ℕ) (X : LfType) → TypeAt L j X → (A : LfType) × TypeAt (onto later (E ∷ L)) (before_number later j) A × (skeleton A ≡ skeleton X)
before_type [] E L j X g = (weaken X, (X, g, refl), skeleton_renamed suc X)
before_type (D ∷ later) E L j X g = let (A, h, e) = before_type later E L j X g in (weaken A, (A, h, refl), skeleton_renamed suc A ∙ e)

-- What a block variable gives are terms.
entries_put : (m : ℕ) (U : Spine) (O es : List LfType) (η : ℕ → Image) → ((j : ℕ) (A : LfType) → TypeAt O j A → (N : Term) × (η j ≡ put (skeleton A) N)) → (j : ℕ) (A : LfType) → TypeAt (onto es O) j A → (N : Term) × (entry_images m U es η j ≡ put (skeleton A) N)
entries_put m U O [] η h j A g = h j A g
entries_put m U O (E ∷ es) η h zero A e = (eta_expand (skeleton E) (constant (m + length es)) U, ap (λ a. put a (eta_expand (skeleton E) (constant (m + length es)) U)) (sym (ap skeleton e ∙ skeleton_renamed suc E)))
entries_put m U O (E ∷ es) η h (suc j) A (D, g, e) = let (N, q) = entries_put m U O es η h j D g in (N, q ∙ ap (λ a. put a N) (sym (ap skeleton e ∙ skeleton_renamed suc D)))

image_value : (first : ℕ) (C : NumberedCase) (θ : ℕ → ℕ → Image) (σ : ℕ → Image) (a b : Skeleton) (N : Term) (x : Image) → x ≡ put b N → as_term a (substitute_image σ (read_image (entry_reading first (blocks_of C.blocks) θ (length C.variables)) x)) ≡ value_in first C θ σ N
image_value first C θ σ a b N x e = ap (λ y. as_term a (substitute_image σ (read_image (entry_reading first (blocks_of C.blocks) θ (length C.variables)) y))) e

own_put : (o : ℕ → Option Spine) (a : Skeleton) (N : Term) (x : Image) → x ≡ put a N → ImageOnOwnTerms o x → OnOwnTerms o N
own_put o a N x e h = subst (ImageOnOwnTerms o) e h

module _ (Σ : Signature) (ok : IsSignature Σ) (V : List Block) (typed : AreTypedBlocks Σ V) (first : ℕ) (free : IsFreeFrom Σ first) (C : NumberedCase) (tc : IsTypedNumberedCase Σ first V C) (B : Block) (later : List LfType) (E : LfType) (es : List LfType) (e : onto later (E ∷ es) ≡ B.entries) (k : ℕ) (U : Spine) (at : block_at C.blocks k ≡ Some (record { block = B; terms = U })) where
  abbrev Σ₁ : Signature
  Σ₁ = with_entries Σ first (blocks_of C.blocks)

  abbrev n : ℕ
  n = first_constant first (blocks_of C.blocks) k

  abbrev pub given_before : ℕ → Image
  given_before = before later (variable_images first C.blocks k B U)

  whole : onto B.entries B.some ≡ onto later (E ∷ onto es B.some)
  whole = ap (λ L. onto L B.some) (sym e) ∙ onto_twice later E es B.some

  ok₁ : IsSignature Σ₁
  ok₁ = with_entries_is_signature Σ ok first free (blocks_of C.blocks) (λ D i. typed D (among_worlds Σ ok V typed first free Σ₁ C.variables (own_terms first C.blocks) C.blocks tc.variables.blocks D i))

  pub before_is_typed : IsTypedSubstitution (with_entries Σ first (blocks_of C.blocks)) (onto es B.some) C.variables given_before
  before_is_typed = before_typed Σ₁ ok₁ later E (onto es B.some) C.variables (variable_images first C.blocks k B U) (subst (λ L. IsTypedSubstitution Σ₁ L C.variables (variable_images first C.blocks k B U)) whole (variable_is_typed Σ ok V typed first free C tc.variables k B U at).0)

  pub before_is_term : (j : ℕ) (X : LfType) → TypeAt (onto es B.some) j X → (N : Term) × (given_before j ≡ put (skeleton X) N) × OnOwnTerms (own_terms first C.blocks) N
  before_is_term j X g =
      let (m, (υ, t, u), o) = typed_at Σ₁ V C.variables (own_terms first C.blocks) C.blocks tc.variables.blocks k (record { block = B; terms = U }) at in
      let (N, q) = entries_put n U B.some es (some_images B.some U) (λ i D h. (as_term (skeleton D) (υ i), ap (λ V. some_images B.some V i) u ∙ some_images_are B.some υ i D h)) j X g in
      let r : given_before j ≡ put (skeleton X) N = ap (λ ds. before later (entry_images n U ds (some_images B.some U)) j) (sym e) ∙ before_images n U later E es (some_images B.some U) j ∙ q in
      (N, r, own_put (own_terms first C.blocks) (skeleton X) N (variable_images first C.blocks k B U (before_number later j)) (sym (before_is later (variable_images first C.blocks k B U) j) ∙ r) ((variable_is_typed Σ ok V typed first free C tc.variables k B U at).1 (before_number later j)))

  -- In an instance it is what stands before the entry there.
  pub before_value : (Σ' : Signature) (S : ℕ → Bool) (x : Extends S Σ Σ') {G : List LfType} (w : World Σ' V S G) (θ : ℕ → ℕ → Image) (σ : ℕ → Image) (inst : IsNumberedInstance w first C θ σ) (j : ℕ) (X : LfType) (N : Term) → TypeAt (onto es B.some) j X → given_before j ≡ put (skeleton X) N → as_term (skeleton X) (before later (θ k) j) ≡ value_in first C θ σ N
  before_value Σ' S x w θ σ inst j X N g q =
      let (A, h, s) = before_type later E (onto es B.some) j X g in
      let i : ℕ = before_number later j in
      ap (as_term (skeleton X)) (before_is later (θ k) j)
      ∙ ap (λ a. as_term a (θ k i)) (sym s)
      ∙ variable_is_instance Σ Σ' ok S x V typed first free C tc.variables w θ σ inst k B U at i A (subst (λ L. TypeAt L i A) (sym whole) h)
      ∙ image_value first C θ σ (skeleton A) (skeleton X) N (variable_images first C.blocks k B U i) (sym (before_is later (variable_images first C.blocks k B U) j) ∙ q)

  -- Where it stays itself, it gives the case with block variables one the same, moved.
  pub before_moved : (π : ℕ → ℕ) → Identifies C π → π k ≡ k → (j : ℕ) → move_image (moved_constant first (blocks_of C.blocks) (blocks_of C.blocks) π) (given_before j) ≡ before later (entry_images (first_constant first (blocks_of C.blocks) k) (move_spine (moved_constant first (blocks_of C.blocks) (blocks_of C.blocks) π) U) B.entries (some_images B.some (move_spine (moved_constant first (blocks_of C.blocks) (blocks_of C.blocks) π) U))) j
  before_moved π i f j =
      let γ : ℕ → ℕ = moved_constant first (blocks_of C.blocks) (blocks_of C.blocks) π in
      ap (move_image γ) (before_is later (variable_images first C.blocks k B U) j)
      ∙ variable_stays Σ ok V typed first free C tc.variables π i k B U at f (before_number later j)
      ∙ sym (before_is later (entry_images n (move_spine γ U) B.entries (some_images B.some (move_spine γ U))) j)
