-- What a block variable of the case gives to what stands before an entry becomes, in an instance, what the instance's block variable gives.
use Rattle.std.proofs.Common.{◌≡◌, ℕ, zero, suc, ◌+◌, List, [], ◌∷◌, ◌++◌, length, refl, sym, ap, ◌∙◌, subst}
use Rattle.std.specs.Prelude.{Some}
use Rattle.lf.specs.Syntax.{Term, Spine, LfType, skeleton}
use Rattle.lf.specs.Substitution.{Image, put, substitute, substitute_image, substitute_spine, reduce, after}
use Rattle.lf.specs.AtOnce.{in_front}
use Rattle.lf.specs.Typing.{Signature, TypeAt, IsTypedSubstitution, IsContext, IsSignature}
use Rattle.lf.specs.Variables.{onto}
use Rattle.lf.specs.Subordination.{Block, AreTypedBlocks}
use Rattle.lf_cases.specs.Case.{as_term}
use Rattle.lf_cases.specs.Cover.{before}
use Rattle.lf_coverage.proofs.Standing.{before_typed}
use Rattle.lf_numbered.specs.EntryConstants.{entry_images, with_entries, IsFreeFrom}
use Rattle.lf_numbered.specs.EntryPatterns.{some_images, variable_images}
use Rattle.lf_numbered.specs.NumberedCallsStores.{Identifies, identified}
use Rattle.lf_numbered.specs.NumberedCase.{NumberedCase, AreTypedVariables, some_spine}
use Rattle.lf_numbered.specs.NumberedInstance.{IsTypedInstanceOf, block_at, first_constant, moved_constant, move_spine, move_types}
use Rattle.lf_numbered.specs.OwnTerms.{BlockVariable, blocks_of}
use Rattle.lf_numbered.specs.WritingRoom.{move_image}
use Rattle.lf_numbered.proofs.EntryPatternsAmong.{first_earlier}
use Rattle.lf_numbered.proofs.EntryPatternsNear.{before_images}
use Rattle.lf_numbered.proofs.EntryPatternsOutside.{some_last}
use Rattle.lf_numbered.proofs.EntryPatternsTyped.{variable_is_typed}
use Rattle.lf_numbered.proofs.EntryPlaces.{whole}
use Rattle.lf_numbered.proofs.EntryValues.{after_entries, put_add}
use Rattle.lf_numbered.proofs.MeetsInstanceMoved.{δ, ψ, case_blocks, case_kinds, case_old, case_types, instance_blocks, keeps, ones, some_terms, terms_put}
use Rattle.lf_numbered.proofs.MeetsInstanceLists.{some_kept}
use Rattle.lf_numbered.proofs.MeetsInstanceNumbers.{renumbering, renumbering_keeps, number_is_one}
use Rattle.lf_numbered.proofs.MovedBlocks.{entry_moved}
use Rattle.lf_numbered.proofs.MovedConstants.{later_context, onto_twice, blocks_stay, block_images_moved}
use Rattle.lf_numbered.proofs.WritingGap.{some_moved}
use mathlib.Core.Path.{fun_ext}

-- the `some` variables' terms, with values put in
pub some_images_put : (σ : ℕ → Image) (O : List LfType) (υ : ℕ → Image) (i : ℕ) (A : LfType) → TypeAt O i A → substitute_image σ (some_images O (some_spine O υ) i) ≡ some_images O (substitute_spine reduce σ (some_spine O υ)) i
some_images_put σ [] υ i A g = absurd g
some_images_put σ (B ∷ O) υ i A g =
    let S : Spine = some_spine O (λ j. υ (suc j)) in
    let N : Term = as_term (skeleton B) (υ zero) in
    ap (λ f. substitute_image σ (f i)) (some_last B O S N) ∙ by S N (λ j D d. some_images_put σ O (λ l. υ (suc l)) j D d) i A g ∙ ap (λ f. f i) (sym (ap (some_images (B ∷ O)) (put_add σ S N) ∙ some_last B O (substitute_spine reduce σ S) (substitute reduce σ N)))
  where
    by : (S : Spine) (N : Term) → ((j : ℕ) (D : LfType) → TypeAt O j D → substitute_image σ (some_images O S j) ≡ some_images O (substitute_spine reduce σ S) j) → (i : ℕ) (A : LfType) → TypeAt (B ∷ O) i A → substitute_image σ (in_front (put (skeleton B) N) (some_images O S) i) ≡ in_front (put (skeleton B) (substitute reduce σ N)) (some_images O (substitute_spine reduce σ S)) i
    by S N h zero A g = refl
    by S N h (suc j) A (D, g, e) = h j D g

-- entries in front of images that agree
pub entries_agree : (m : ℕ) (U : Spine) (es O : List LfType) (υ ω : ℕ → Image) → ((i : ℕ) (A : LfType) → TypeAt O i A → υ i ≡ ω i) → (i : ℕ) (A : LfType) → TypeAt (onto es O) i A → entry_images m U es υ i ≡ entry_images m U es ω i
entries_agree m U [] O υ ω h i A g = h i A g
entries_agree m U (E ∷ es) O υ ω h zero A g = refl
entries_agree m U (E ∷ es) O υ ω h (suc i) A (D, g, e) = entries_agree m U es O υ ω h i D g

module _ (Σ : Signature) (ok : IsSignature Σ) (first : ℕ) (free : IsFreeFrom Σ first) (W V : List Block) (typed : AreTypedBlocks Σ W) (typed_more : AreTypedBlocks Σ V) (C M : NumberedCase) (tc : AreTypedVariables Σ first W C) (tm : AreTypedVariables Σ first V M) (ν : ℕ → ℕ) (σ : ℕ → Image) (h : IsTypedInstanceOf Σ first M C ν σ) (π : ℕ → ℕ) (i : Identifies C π) (same : (k : ℕ) (b : BlockVariable) → block_at C.blocks k ≡ Some b → ν (π k) ≡ ν k) (only : (j k : ℕ) (b c : BlockVariable) → block_at C.blocks j ≡ Some b → block_at C.blocks k ≡ Some c → ν j ≡ ν k → π j ≡ π k) (B : Block) (later : List LfType) (E : LfType) (es : List LfType) (e : onto later (E ∷ es) ≡ B.entries) (k : ℕ) (U : Spine) (at : block_at C.blocks k ≡ Some (record { block = B; terms = U })) (fixed : π k ≡ k) where
  abbrev γ : ℕ → ℕ
  γ = moved_constant first (blocks_of C.blocks) (blocks_of C.blocks) π

  abbrev Δ : ℕ → ℕ
  Δ = δ Σ ok first free W V typed typed_more C M tc tm ν σ h π i same only

  abbrev m : ℕ
  m = first_constant first (blocks_of C.blocks) k

  abbrev φ : ℕ → Image
  φ = before later (variable_images first (identified first π C).blocks k B (move_spine (moved_constant first (blocks_of C.blocks) (blocks_of C.blocks) π) U))

  before_is : (n : ℕ) (S : Spine) (η : ℕ → Image) (l : ℕ) → before later (entry_images n S B.entries η) l ≡ entry_images n S es η l
  before_is n S η l = ap (λ L. before later (entry_images n S L η) l) (sym e) ∙ before_images n S later E es η l

  outer_context : IsContext Σ (onto es B.some)
  outer_context = (later_context Σ later (E ∷ es) B.some (subst (λ L. IsContext Σ (onto L B.some)) (sym e) (case_blocks Σ ok first free W V typed typed_more C M tc tm ν σ h π i same only k (record { block = B; terms = U }) at))).0

  entries_before : (l : List LfType) (F : LfType) (ds : List LfType) → onto l (F ∷ ds) ≡ es → onto (onto later (E ∷ l)) (F ∷ ds) ≡ B.entries
  entries_before l F ds q = onto_twice later E l (F ∷ ds) ∙ ap (λ L. onto later (E ∷ L)) q ∙ e

  case_entry : (l : List LfType) (F : LfType) (ds : List LfType) → onto l (F ∷ ds) ≡ es → γ (m + length ds) ≡ m + length ds
  case_entry l F ds q = entry_moved Σ ok first free C.blocks C.blocks π (ones Σ ok first free W V typed typed_more C M tc tm ν σ h π i same only) (case_blocks Σ ok first free W V typed typed_more C M tc tm ν σ h π i same only) k (record { block = B; terms = U }) at (onto later (E ∷ l)) F ds (entries_before l F ds q) ∙ ap (λ j. first_constant first (blocks_of C.blocks) j + length ds) fixed

  -- over the case with block variables one
  outer_is : (l : ℕ) → φ l ≡ entry_images m (move_spine γ U) es (some_images B.some (move_spine γ U)) l
  outer_is l = ap (λ Bs. before later (entry_images (first_constant first Bs k) (move_spine γ U) B.entries (some_images B.some (move_spine γ U))) l) (blocks_stay γ C.blocks) ∙ before_is m (move_spine γ U) (some_images B.some (move_spine γ U)) l

  outer_moved : (l : ℕ) → move_image γ (before later (variable_images first C.blocks k B U) l) ≡ φ l
  outer_moved l =
      ap (move_image γ) (before_is m U (some_images B.some U) l)
      ∙ block_images_moved γ m m U B.some es case_entry l
      ∙ sym (outer_is l)

  pub outer_typed : IsTypedSubstitution (with_entries Σ first (blocks_of (C.blocks ++ M.blocks))) (onto es B.some) (move_types (moved_constant first (blocks_of C.blocks) (blocks_of C.blocks) π) C.variables) (before later (variable_images first (identified first π C).blocks k B (move_spine (moved_constant first (blocks_of C.blocks) (blocks_of C.blocks) π) U)))
  outer_typed =
      let Σ₁ : Signature = with_entries Σ first (blocks_of C.blocks) in
      let z : IsTypedSubstitution Σ₁ (onto B.entries B.some) C.variables (variable_images first C.blocks k B U) = (variable_is_typed Σ ok W typed first free C tc k B U at).0 in
      let y : IsTypedSubstitution Σ₁ (onto es B.some) C.variables (before later (variable_images first C.blocks k B U)) = before_typed Σ₁ C.variables later E (onto es B.some) (variable_images first C.blocks k B U) (subst (λ X. IsTypedSubstitution Σ₁ X C.variables (variable_images first C.blocks k B U)) (whole B later E es e) z) in
      subst (IsTypedSubstitution (with_entries Σ first (blocks_of (C.blocks ++ M.blocks))) (onto es B.some) (move_types γ C.variables)) (fun_ext outer_moved)
      (some_kept γ Σ Σ₁ (with_entries Σ first (blocks_of (C.blocks ++ M.blocks))) ok (case_old Σ ok first free W V typed typed_more C M tc tm ν σ h π i same only) (case_types Σ ok first free W V typed typed_more C M tc tm ν σ h π i same only) (case_kinds Σ ok first free W V typed typed_more C M tc tm ν σ h π i same only) (onto es B.some) C.variables (before later (variable_images first C.blocks k B U)) outer_context y)

  -- in the instance
  module _ (j : ℕ) (U' : Spine) (there : block_at M.blocks j ≡ Some (record { block = B; terms = U' })) (q : ν k ≡ j) where
    pub instance_typed : IsTypedSubstitution (with_entries Σ first (blocks_of M.blocks)) (onto es B.some) M.variables (before later (variable_images first M.blocks j B U'))
    instance_typed = before_typed (with_entries Σ first (blocks_of M.blocks)) M.variables later E (onto es B.some) (variable_images first M.blocks j B U') (subst (λ X. IsTypedSubstitution (with_entries Σ first (blocks_of M.blocks)) X M.variables (variable_images first M.blocks j B U')) (whole B later E es e) (variable_is_typed Σ ok V typed_more first free M tm j B U' there).0)

    abbrev n : ℕ
    n = first_constant first (blocks_of M.blocks) j

    instance_entry : (l : List LfType) (F : LfType) (ds : List LfType) → onto l (F ∷ ds) ≡ es → Δ (n + length ds) ≡ m + length ds
    instance_entry l F ds r =
        entry_moved Σ ok first free M.blocks (C.blocks ++ M.blocks) (renumbering ν π (length C.blocks)) (renumbering_keeps C.blocks M.blocks ν π (keeps Σ ok first free W V typed typed_more C M tc tm ν σ h π i same only) (ones Σ ok first free W V typed typed_more C M tc tm ν σ h π i same only) only) (instance_blocks Σ ok first free W V typed typed_more C M tc tm ν σ h π i same only) j (record { block = B; terms = U' }) there (onto later (E ∷ l)) F ds (entries_before l F ds r)
        ∙ ap (λ x. first_constant first (blocks_of (C.blocks ++ M.blocks)) x + length ds) (ap (renumbering ν π (length C.blocks)) (sym q) ∙ number_is_one C.blocks M.blocks ν π (keeps Σ ok first free W V typed typed_more C M tc tm ν σ h π i same only) (ones Σ ok first free W V typed typed_more C M tc tm ν σ h π i same only) only k (record { block = B; terms = U }) at ∙ fixed)
        ∙ ap (λ x. x + length ds) (first_earlier first C.blocks M.blocks k (record { block = B; terms = U }) at)

    terms : substitute_spine reduce (ψ Σ ok first free W V typed typed_more C M tc tm ν σ h π i same only) (move_spine γ U) ≡ move_spine Δ U'
    terms = terms_put Σ ok first free W V typed typed_more C M tc tm ν σ h π i same only k (record { block = B; terms = U }) (record { block = B; terms = U' }) at (ap (block_at M.blocks) q ∙ there)

    pub outer_put : (l : ℕ) (A : LfType) → TypeAt (onto es B.some) l A → substitute_image (ψ Σ ok first free W V typed typed_more C M tc tm ν σ h π i same only) (before later (variable_images first (identified first π C).blocks k B (move_spine (moved_constant first (blocks_of C.blocks) (blocks_of C.blocks) π) U)) l) ≡ move_image (δ Σ ok first free W V typed typed_more C M tc tm ν σ h π i same only) (before later (variable_images first M.blocks j B U') l)
    outer_put l A g =
        let P : ℕ → Image = ψ Σ ok first free W V typed typed_more C M tc tm ν σ h π i same only in
        let (υ, t, s) = some_terms Σ ok first free W V typed typed_more C M tc tm ν σ h π i same only k (record { block = B; terms = U }) at in
        let long : move_spine γ U ≡ some_spine B.some (λ x. move_image γ (υ x)) = ap (move_spine γ) s ∙ some_moved γ B.some υ in
        let inner : (x : ℕ) (D : LfType) → TypeAt B.some x D → after P (some_images B.some (move_spine γ U)) x ≡ some_images B.some (move_spine Δ U') x = λ x D d. ap (λ S. substitute_image P (some_images B.some S x)) long ∙ some_images_put P B.some (λ y. move_image γ (υ y)) x D d ∙ ap (λ S. some_images B.some (substitute_spine reduce P S) x) (sym long) ∙ ap (λ S. some_images B.some S x) terms in
        ap (substitute_image P) (outer_is l)
        ∙ after_entries m (move_spine γ U) (move_spine Δ U') es (some_images B.some (move_spine γ U)) P terms l
        ∙ entries_agree m (move_spine Δ U') es B.some (after P (some_images B.some (move_spine γ U))) (some_images B.some (move_spine Δ U')) inner l A g
        ∙ sym (ap (move_image Δ) (before_is n U' (some_images B.some U') l) ∙ block_images_moved Δ n m U' B.some es instance_entry l)
