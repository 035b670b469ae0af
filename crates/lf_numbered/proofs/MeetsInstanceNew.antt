-- An instance of a case that has a block variable which is none of the case's is one of the case with a new block variable, which stands for it.
use Rattle.std.proofs.Common.{◌≡◌, ℕ, zero, ◌+◌, ◌⊎◌, List, [], ◌∷◌, length, inl, inr, refl, sym, ap, ap₂, ◌∙◌, subst, arith}
use Rattle.std.specs.Prelude.{Option, Some, None}
use Rattle.lf.specs.Syntax.{Term, Spine, LfType, skeleton, rename_spine}
use Rattle.lf.specs.Substitution.{Image, put, substitute, substitute_spine, substitute_type, reduce}
use Rattle.lf.specs.SkeletonTyping.{ImageSkeleton, SubstitutionBySkeletons}
use Rattle.lf.specs.Skeletons.{constant_skeletons, context_skeletons}
use Rattle.lf.specs.AtOnce.{shift_by, lift_renaming_by}
use Rattle.lf.specs.Typing.{Signature, TypeAt, HasType, IsTypedSubstitution, IsContext, IsSignature}
use Rattle.lf.specs.Variables.{onto}
use Rattle.lf.specs.Subordination.{Block, Member, AreTypedBlocks}
use Rattle.lf.specs.Worlds.{lift_over}
use Rattle.lf.proofs.Renaming.{substitute_renamed_spine}
use Rattle.lf.proofs.Substitution.{typed_substitution_by_skeletons}
use Rattle.lf.proofs.ToSkeletons.{skeleton_has_variable}
use Rattle.lf_unification.specs.Offering.{local_arguments}
use Rattle.lf_cases.specs.Case.{as_term}
use Rattle.lf_cases.specs.Missing.{put_in}
use Rattle.lf_cases.specs.OutputGoal.{renumber}
use Rattle.lf_cases.proofs.OutputItems.{length_renumber}
use Rattle.lf_coverage.specs.Heads.{HaveSkeletons}
use Rattle.lf_coverage.proofs.Forms.{lift_same}
use Rattle.lf_coverage.proofs.ItemsContext.{outer_context}
use Rattle.lf_coverage.proofs.Meeting.{joined, joined_near, joined_far}
use Rattle.lf_coverage.proofs.Parts.{none_some}
use Rattle.lf_numbered.specs.EntryConstants.{EntryConstant, entry_constant, entry_type, with_entries, IsFreeFrom}
use Rattle.lf_numbered.specs.EntryPatterns.{some_images}
use Rattle.lf_numbered.specs.NewBlock.{rename_all, with_new_block}
use Rattle.lf_numbered.specs.NumberedCase.{NumberedCase, AreTypedVariables, some_spine}
use Rattle.lf_numbered.specs.NumberedInstance.{AreTypedValues, IsTypedInstanceOf, block_at, first_constant, moved_constant, moved_entry, move, move_all, move_spine, move_type}
use Rattle.lf_numbered.specs.OwnTerms.{BlockVariable, blocks_of, own_terms, rename_blocks, ImageOnOwnTerms}
use Rattle.lf_numbered.specs.TypedNumbered.{IsTypedNumberedCase}
use Rattle.lf_numbered.proofs.EntryPatternsNumbers.{inside_list, old_or_last}
use Rattle.lf_numbered.proofs.EntryPatternsOutside.{some_images_are}
use Rattle.lf_numbered.proofs.EntryPatternsTyped.{typed_at, variable_is_typed}
use Rattle.lf_numbered.proofs.EntrySignature.{behind_kept, else_cases, entries_kept}
use Rattle.lf_numbered.proofs.EntryValues.{put_locals, some_equal}
use Rattle.lf_numbered.proofs.MeetsInstanceJoined.{past_put}
use Rattle.lf_numbered.proofs.MeetsInstanceNumbers.{both_moved, both_moved_spine, both_moved_type}
use Rattle.lf_numbered.proofs.MeetsInstanceLists.{some_only}
use Rattle.lf_numbered.proofs.MovedConstants.{locals_moved}
use Rattle.lf_numbered.proofs.NewInstance.{new_blocks_are}
use Rattle.lf_numbered.proofs.NumberedArguments.{skeleton_only}
use Rattle.lf_numbered.proofs.NumberedCallsOwn.{unmoved, unmoved_spine, unmoved_type}
use Rattle.lf_numbered.proofs.OwnStoresEntry.{ok₁}
use Rattle.lf_numbered.proofs.OwnTerms.{entry_from}
use Rattle.lf_numbered.proofs.Reading.{IsOld, type_only}
use Rattle.lf_numbered.proofs.RenamedBlocks.{renamed_from, renamed_length}
use Rattle.lf_numbered.proofs.WritingChoice.{from_is}
use Rattle.lf_numbered.proofs.WritingMove.{move_renamed, move_spine_renamed}
use Rattle.lf_numbered.proofs.MeetsInstanceFront.{behind_entries_typed, behind_entries_own, with_number, number_new, number_other, front_values}
use mathlib.Core.Path.{fun_ext}

module _ (Σ : Signature) (ok : IsSignature Σ) (first : ℕ) (free : IsFreeFrom Σ first) (V : List Block) (typed : AreTypedBlocks Σ V) (C M : NumberedCase) (tc : IsTypedNumberedCase Σ first V C) (tm : AreTypedVariables Σ first V M) (ν : ℕ → ℕ) (σ : ℕ → Image) (h : IsTypedInstanceOf Σ first M C ν σ) (B : Block) (member : Member B V) (j : ℕ) (U : Spine) (there : block_at M.blocks j ≡ Some (record { block = B; terms = U })) where
  abbrev Σ₁ : Signature
  Σ₁ = with_entries Σ first (blocks_of C.blocks)

  abbrev Σm : Signature
  Σm = with_entries Σ first (blocks_of M.blocks)

  abbrev N : NumberedCase
  N = with_new_block B C

  abbrev pub numbers : ℕ → ℕ
  numbers = with_number (length C.blocks) j ν

  abbrev η : ℕ → Image
  η = some_images B.some U

  abbrev pub values : ℕ → Image
  values = joined B.some (some_images B.some U) σ

  abbrev ε : ℕ → ℕ
  ε = moved_constant first (blocks_of C.blocks) (blocks_of M.blocks) ν

  abbrev ε' : ℕ → ℕ
  ε' = moved_constant first (blocks_of (with_new_block B C).blocks) (blocks_of M.blocks) (with_number (length C.blocks) j ν)

  abbrev ρ : ℕ → ℕ
  ρ = shift_by (length B.some)

  none_number : (k : ℕ) → zero + k ≡ k
  none_number k = omega arith

  -- The constants of the case go where they went.
  constants_same : (c : ℕ) → IsOld (with_entries Σ first (blocks_of C.blocks)) c → ε c ≡ ε' c
  constants_same c (A, t) = by (entry_constant zero first (blocks_of C.blocks) c) refl
    where
      old : Σ.types c ≡ Some A → (y : Option EntryConstant) → entry_constant zero first (blocks_of N.blocks) c ≡ y → ε' c ≡ c
      old o None q = ap (moved_entry first (blocks_of M.blocks) (with_number (length C.blocks) j ν) c) q
      old o (Some e) q = absurd (none_some (sym (free.types_free c (entry_from zero first (blocks_of N.blocks) c e q)) ∙ o))

      by : (y : Option EntryConstant) → entry_constant zero first (blocks_of C.blocks) c ≡ y → ε c ≡ ε' c
      by None q = ap (moved_entry first (blocks_of M.blocks) ν c) q ∙ sym (old (typed_old (else_cases (Σ.types c) (entry_type (entry_constant zero first (blocks_of C.blocks) c)) A t)) (entry_constant zero first (blocks_of N.blocks) c) refl)
        where
          typed_old : (Σ.types c ≡ Some A) ⊎ (entry_type (entry_constant zero first (blocks_of C.blocks) c) ≡ Some A) → Σ.types c ≡ Some A
          typed_old (inl o) = o
          typed_old (inr o) = absurd (none_some (sym (ap entry_type q) ∙ o))
      by (Some e) q =
          let (k, b, at, number, block, from, place, later, entries, rest) = from_is zero first C.blocks c e q in
          let found : entry_constant zero first (blocks_of N.blocks) c ≡ Some e = subst (λ Bs. entry_constant zero first Bs c ≡ Some e) (sym (new_blocks_are B C)) (behind_kept zero first (blocks_of C.blocks) (B ∷ []) c e q) in
          let same : with_number (length C.blocks) j ν e.number ≡ ν e.number = ap (with_number (length C.blocks) j ν) (number ∙ none_number k) ∙ number_other (length C.blocks) j ν k (inside_list C.blocks k b at) ∙ sym (ap ν (number ∙ none_number k)) in
          ap (moved_entry first (blocks_of M.blocks) ν c) q
          ∙ ap (λ m. first_constant first (blocks_of M.blocks) m + length e.before) (sym same)
          ∙ sym (ap (moved_entry first (blocks_of M.blocks) (with_number (length C.blocks) j ν) c) found)

  old_stays : (c : ℕ) → IsOld Σ c → ε' c ≡ c
  old_stays c (A, o) = by (entry_constant zero first (blocks_of N.blocks) c) refl
    where
      by : (y : Option EntryConstant) → entry_constant zero first (blocks_of N.blocks) c ≡ y → ε' c ≡ c
      by None q = ap (moved_entry first (blocks_of M.blocks) (with_number (length C.blocks) j ν) c) q
      by (Some e) q = absurd (none_some (sym (free.types_free c (entry_from zero first (blocks_of N.blocks) c e q)) ∙ o))

  term_same : (P : Term) → Rattle.lf_numbered.proofs.Reading.OnlyConstants (IsOld (with_entries Σ first (blocks_of C.blocks))) P → move ε P ≡ move ε' P
  term_same P o = sym (unmoved (move ε P)) ∙ both_moved (IsOld Σ₁) (λ c. c) ε ε' constants_same P o

  spine_same : (S : Spine) → Rattle.lf_numbered.proofs.Reading.SpineOnlyConstants (IsOld (with_entries Σ first (blocks_of C.blocks))) S → move_spine ε S ≡ move_spine ε' S
  spine_same S o = sym (unmoved_spine (move_spine ε S)) ∙ both_moved_spine (IsOld Σ₁) (λ c. c) ε ε' constants_same S o

  type_same : (A : LfType) → Rattle.lf_numbered.proofs.Reading.TypeOnlyConstants (IsOld (with_entries Σ first (blocks_of C.blocks))) A → move_type ε A ≡ move_type ε' A
  type_same A o = sym (unmoved_type (move_type ε A)) ∙ both_moved_type (IsOld Σ₁) (λ c. c) ε ε' constants_same A o

  values_like : (X : List LfType) → IsContext (with_entries Σ first (blocks_of C.blocks)) X → (τ : ℕ → Image) → AreTypedValues (with_entries Σ first (blocks_of M.blocks)) M.variables (own_terms first M.blocks) ε X τ → AreTypedValues (with_entries Σ first (blocks_of M.blocks)) M.variables (own_terms first M.blocks) ε' X τ
  values_like [] c τ e = e
  values_like (A ∷ X) (c, a) τ (P, υ, v, t, w, e) = (P, υ, values_like X c υ v, subst (λ Z. HasType Σm M.variables P (substitute_type reduce υ Z)) (type_same A (type_only Σ₁ X A a)) t, w, e)

  -- the terms of the block variable
  some_context : IsContext Σ B.some
  some_context = outer_context Σ B.entries B.some (typed B member)

  some_typed : IsTypedSubstitution (with_entries Σ first (blocks_of M.blocks)) B.some M.variables (some_images B.some U)
  some_typed = behind_entries_typed Σm (first_constant first (blocks_of M.blocks) j) U η B.some M.variables B.entries (variable_is_typed Σ ok V typed first free M tm j B U there).0

  some_own : (i : ℕ) → ImageOnOwnTerms (own_terms first M.blocks) (some_images B.some U i)
  some_own = behind_entries_own (own_terms first M.blocks) (first_constant first (blocks_of M.blocks) j) U η B.entries (variable_is_typed Σ ok V typed first free M tm j B U there).1

  abbrev known : (υ : ℕ → Image) × IsTypedSubstitution (with_entries Σ first (blocks_of M.blocks)) B.some M.variables υ × (U ≡ some_spine B.some υ)
  known = (typed_at (with_entries Σ first (blocks_of M.blocks)) V M.variables (own_terms first M.blocks) M.blocks tm.blocks j (record { block = B; terms = U }) there).1

  some_is : (i : ℕ) (A : LfType) → TypeAt B.some i A → some_images B.some U i ≡ put (skeleton A) (as_term (skeleton A) (known.0 i))
  some_is i A g = ap (λ S. some_images B.some S i) known.2 ∙ some_images_are B.some known.0 i A g

  pub new_values : AreTypedValues (with_entries Σ first (blocks_of M.blocks)) M.variables (own_terms first M.blocks) ε' (onto B.some C.variables) values
  new_values = front_values Σ Σm ok (entries_kept Σ first (blocks_of M.blocks)) refl M.variables (own_terms first M.blocks) ε' old_stays C.variables σ (values_like C.variables tc.variables.variables σ h.values) B.some some_context η some_typed (λ i A g. (as_term (skeleton A) (known.0 i), some_is i A g, subst (ImageOnOwnTerms (own_terms first M.blocks)) (some_is i A g) (some_own i)))

  new_fits : SubstitutionBySkeletons (constant_skeletons (with_entries Σ first (blocks_of M.blocks))) (context_skeletons B.some) (context_skeletons M.variables) values
  new_fits i t k = let (A, g, e) = skeleton_has_variable B.some i t k in subst (λ x. ImageSkeleton (constant_skeletons Σm) (context_skeletons M.variables) x t) (sym (joined_near B.some η σ i A g)) (typed_substitution_by_skeletons Σm (ok₁ Σ ok V typed first free M tm) B.some M.variables η some_typed i t k)

  new_terms : substitute_spine reduce values (move_spine ε' (local_arguments B.some)) ≡ U
  new_terms =
      ap (substitute_spine reduce values) (locals_moved ε' B.some)
      ∙ put_locals (constant_skeletons Σm) B.some (context_skeletons M.variables) values new_fits
      ∙ some_equal B.some values known.0 (λ i A g. ap (as_term (skeleton A)) (joined_near B.some η σ i A g ∙ some_is i A g))
      ∙ sym known.2

  pub new_blocks : (k : ℕ) (b : BlockVariable) → block_at (with_new_block B C).blocks k ≡ Some b → block_at M.blocks (numbers k) ≡ Some (record { block = b.block; terms = substitute_spine reduce values (move_spine ε' b.terms) })
  new_blocks k b e = by (old_or_last (rename_blocks ρ C.blocks) (record { block = B; terms = local_arguments B.some }) k b e)
    where
      by : (block_at (rename_blocks ρ C.blocks) k ≡ Some b) ⊎ ((k ≡ length (rename_blocks ρ C.blocks)) × (b ≡ record { block = B; terms = local_arguments B.some })) → block_at M.blocks (numbers k) ≡ Some (record { block = b.block; terms = substitute_spine reduce values (move_spine ε' b.terms) })
      by (inl q) =
          let (d, at, r) = renamed_from ρ C.blocks k b q in
          let same : substitute_spine reduce σ (move_spine ε d.terms) ≡ substitute_spine reduce values (move_spine ε' (rename_spine ρ d.terms)) =
          ap (substitute_spine reduce σ) (spine_same d.terms (some_only Σ₁ (ok₁ Σ ok V typed first free C tc.variables) C.variables d.block.some d.terms (typed_at Σ₁ V C.variables (own_terms first C.blocks) C.blocks tc.variables.blocks k d at).1))
          ∙ sym (ap (substitute_spine reduce values) (move_spine_renamed ε' ρ d.terms) ∙ substitute_renamed_spine reduce values ρ (move_spine ε' d.terms) ∙ ap (λ f. substitute_spine reduce f (move_spine ε' d.terms)) (fun_ext (joined_far B.some η σ))) in
          ap (block_at M.blocks) (number_other (length C.blocks) j ν k (inside_list C.blocks k d at))
          ∙ h.blocks k d at
          ∙ ap (λ S. Some (record { block = d.block; terms = S })) same
          ∙ ap (λ (x : BlockVariable). Some (record { block = x.block; terms = substitute_spine reduce values (move_spine ε' x.terms) })) (sym r)
      by (inr (q, r)) =
          ap (λ i. block_at M.blocks (numbers i)) (q ∙ renamed_length ρ C.blocks)
          ∙ ap (block_at M.blocks) (number_new (length C.blocks) j ν)
          ∙ there
          ∙ ap (λ S. Some (record { block = B; terms = S })) (sym new_terms)
          ∙ ap (λ (x : BlockVariable). Some (record { block = x.block; terms = substitute_spine reduce values (move_spine ε' x.terms) })) (sym r)

  pub new_instance : IsTypedInstanceOf Σ first M (with_new_block B C) numbers values
  new_instance = record { blocks = new_blocks; values = new_values }

  -- given terms and arguments
  pub all_same : (L : List LfType) (Ms : List (Option Term)) → HaveSkeletons (constant_skeletons (with_entries Σ first (blocks_of C.blocks))) (context_skeletons (onto L C.variables)) Ms → put_in (lift_over L σ) (move_all ε Ms) ≡ put_in (lift_over (renumber (shift_by (length B.some)) L) values) (move_all ε' (rename_all (lift_renaming_by (length L) (shift_by (length B.some))) Ms))
  all_same L [] s = refl
  all_same L (Some P ∷ Ms) ((t, m), s) = ap₂ (λ Q Qs. Some Q ∷ Qs)
      (ap (substitute reduce (lift_over L σ)) (term_same P (skeleton_only Σ₁ (context_skeletons (onto L C.variables)) P t m))
      ∙ sym (past_put B.some L η σ (move ε' P))
      ∙ ap₂ (λ f Q. substitute reduce f Q) (lift_same L (renumber ρ L) values (sym (length_renumber ρ L))) (sym (move_renamed ε' (lift_renaming_by (length L) ρ) P)))
      (all_same L Ms s)
  all_same L (None ∷ Ms) s = ap (λ Qs. None ∷ Qs) (all_same L Ms s)
