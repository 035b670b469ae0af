-- Block variables that are one stay so beside a new block variable, and it makes no difference whether this comes before they are made one or after.
use Rattle.std.proofs.Common.{◌≡◌, ℕ, zero, ◌+◌, ◌⊎◌, List, [], ◌∷◌, length, inl, inr, refl, sym, ap, ◌∙◌, subst, arith}
use Rattle.std.specs.Prelude.{Option, Some, None}
use Rattle.lf.specs.Syntax.{LfType, rename_spine}
use Rattle.lf.specs.AtOnce.{shift_by, lift_renaming_by}
use Rattle.lf.specs.Typing.{Signature, IsContext}
use Rattle.lf.specs.Variables.{onto}
use Rattle.lf.specs.Subordination.{Block}
use Rattle.lf_unification.specs.Offering.{local_arguments}
use Rattle.lf_coverage.proofs.Parts.{none_some}
use Rattle.lf_numbered.specs.EntryConstants.{EntryConstant, entry_constant, IsFreeFrom}
use Rattle.lf_numbered.specs.NewBlock.{rename_all, with_new_block}
use Rattle.lf_numbered.specs.NumberedCallsStores.{Identifies, identified, move_blocks}
use Rattle.lf_numbered.specs.NumberedCase.{NumberedCase}
use Rattle.lf_numbered.specs.NumberedInstance.{block_at, first_constant, moved_constant, moved_entry, move_all, move_types}
use Rattle.lf_numbered.specs.OwnTerms.{BlockVariable, blocks_of, rename_blocks}
use Rattle.lf_numbered.proofs.EntryPatternsAmong.{first_earlier, first_renamed}
use Rattle.lf_numbered.proofs.EntryPatternsNumbers.{earlier_at, last_at, old_or_last}
use Rattle.lf_numbered.proofs.EntryPatternsOutside.{found_at_number}
use Rattle.lf_numbered.proofs.EntrySignature.{behind_kept}
use Rattle.lf_numbered.proofs.MovedConstants.{locals_moved, length_moved, onto_moved, context_old}
use Rattle.lf_numbered.proofs.NewInstance.{new_blocks_are}
use Rattle.lf_numbered.proofs.OwnTerms.{entry_from}
use Rattle.lf_numbered.proofs.Reading.{IsOld}
use Rattle.lf_numbered.proofs.RenamedBlocks.{renamed_at, renamed_from, renamed_length, added_commute, all_commute, local_commutes}
use Rattle.lf_numbered.proofs.WritingChoice.{from_is}
use mathlib.Core.Path.{fun_ext}

abbrev pub IsOldOrNew : NumberedCase → Block → ℕ → BlockVariable → Type 0
IsOldOrNew C B k b = ((d : BlockVariable) × (block_at C.blocks k ≡ Some d) × (b.block ≡ d.block)) ⊎ ((k ≡ length C.blocks) × (b ≡ record { block = B; terms = local_arguments B.some }))

pub new_at : (B : Block) (C : NumberedCase) → block_at (with_new_block B C).blocks (length C.blocks) ≡ Some (record { block = B; terms = local_arguments B.some })
new_at B C = ap (block_at (with_new_block B C).blocks) (sym (renamed_length (shift_by (length B.some)) C.blocks)) ∙ last_at (rename_blocks (shift_by (length B.some)) C.blocks) (record { block = B; terms = local_arguments B.some })

-- cases with the same parts
same_cases : (C D : NumberedCase) → C.blocks ≡ D.blocks → C.variables ≡ D.variables → C.given ≡ D.given → C.local ≡ D.local → C.family ≡ D.family → C.arguments ≡ D.arguments → C ≡ D
same_cases C D b v g l f a =
    ap (λ x. record { blocks = x; variables = C.variables; given = C.given; local = C.local; family = C.family; arguments = C.arguments }) b
    ∙ ap (λ x. record { blocks = D.blocks; variables = x; given = C.given; local = C.local; family = C.family; arguments = C.arguments }) v
    ∙ ap (λ x. record { blocks = D.blocks; variables = D.variables; given = x; local = C.local; family = C.family; arguments = C.arguments }) g
    ∙ ap (λ x. record { blocks = D.blocks; variables = D.variables; given = D.given; local = x; family = C.family; arguments = C.arguments }) l
    ∙ ap (λ x. record { blocks = D.blocks; variables = D.variables; given = D.given; local = D.local; family = x; arguments = C.arguments }) f
    ∙ ap (λ x. record { blocks = D.blocks; variables = D.variables; given = D.given; local = D.local; family = D.family; arguments = x }) a

module _ (first : ℕ) (C : NumberedCase) (B : Block) (π : ℕ → ℕ) (i : Identifies C π) (next : π (length C.blocks) ≡ length C.blocks) where
  abbrev N : NumberedCase
  N = with_new_block B C

  abbrev ρ : ℕ → ℕ
  ρ = shift_by (length B.some)

  abbrev last : BlockVariable
  last = record { block = B; terms = local_arguments B.some }

  old_at : (k : ℕ) (b : BlockVariable) → block_at C.blocks k ≡ Some b → block_at (with_new_block B C).blocks k ≡ Some (record { block = b.block; terms = rename_spine ρ b.terms })
  old_at k b e = earlier_at (rename_blocks ρ C.blocks) (last ∷ []) k _ (renamed_at ρ C.blocks k b e)

  -- one of the case or the new one
  pub which : (k : ℕ) (b : BlockVariable) → block_at (with_new_block B C).blocks k ≡ Some b → IsOldOrNew C B k b
  which k b e = by (old_or_last (rename_blocks ρ C.blocks) last k b e)
    where
      by : (block_at (rename_blocks ρ C.blocks) k ≡ Some b) ⊎ ((k ≡ length (rename_blocks ρ C.blocks)) × (b ≡ last)) → IsOldOrNew C B k b
      by (inl q) = let (d, at, r) = renamed_from ρ C.blocks k b q in inl (d, at, ap (λ (x : BlockVariable). x.block) r)
      by (inr (q, r)) = inr (q ∙ renamed_length ρ C.blocks, r)

  pub identifies_new : Identifies (with_new_block B C) π
  identifies_new k b e = by (which k b e)
    where
      by : IsOldOrNew C B k b → (c : BlockVariable) × (block_at N.blocks (π k) ≡ Some c) × (c.block ≡ b.block) × (π (π k) ≡ π k)
      by (inl (d, at, r)) = let (c, q, s, t) = i k d at in (record { block = c.block; terms = rename_spine ρ c.terms }, old_at (π k) c q, s ∙ sym r, t)
      by (inr (q, r)) =
          let here : π k ≡ k = ap π q ∙ next ∙ sym q in
          (b, ap (block_at N.blocks) here ∙ e, refl, ap π here)

  -- The constants that are one are the same.
  abbrev γ : ℕ → ℕ
  γ = moved_constant first (blocks_of C.blocks) (blocks_of C.blocks) π

  abbrev γ' : ℕ → ℕ
  γ' = moved_constant first (blocks_of (with_new_block B C).blocks) (blocks_of (with_new_block B C).blocks) π

  pub first_same : (k : ℕ) (b : BlockVariable) → block_at C.blocks k ≡ Some b → first_constant first (blocks_of N.blocks) k ≡ first_constant first (blocks_of C.blocks) k
  first_same k b e = first_earlier first (rename_blocks ρ C.blocks) (last ∷ []) k _ (renamed_at ρ C.blocks k b e) ∙ first_renamed first ρ C.blocks k

  none_number : (k : ℕ) → zero + k ≡ k
  none_number k = omega arith

  pub constant_same : (c : ℕ) → γ' c ≡ γ c
  constant_same c = by (entry_constant zero first (blocks_of C.blocks) c) refl
    where
      new : entry_constant zero first (blocks_of C.blocks) c ≡ None → (y : Option EntryConstant) → entry_constant zero first (blocks_of N.blocks) c ≡ y → γ' c ≡ c
      new n None q = ap (moved_entry first (blocks_of N.blocks) π c) q
      new n (Some e) q =
          let (k, b, at, number, block, from, place, later, entries, rest) = from_is zero first N.blocks c e q in
          which_one k b at number block from place later entries (which k b at)
        where
          which_one : (k : ℕ) (b : BlockVariable) → block_at N.blocks k ≡ Some b → e.number ≡ zero + k → e.block ≡ b.block → e.from ≡ first_constant first (blocks_of N.blocks) k → c ≡ e.from + length e.before → (later : List LfType) → onto later (e.entry ∷ e.before) ≡ b.block.entries → IsOldOrNew C B k b → γ' c ≡ c
          which_one k b at number block from place later entries (inl (d, to, r)) = absurd (none_some (sym n ∙ ap (entry_constant zero first (blocks_of C.blocks)) (place ∙ ap (λ m. m + length e.before) (from ∙ first_same k d to)) ∙ found_at_number zero first C.blocks k d to later e.entry e.before (entries ∙ ap (λ (D : Block). D.entries) r)))
          which_one k b at number block from place later entries (inr (r, z)) =
              ap (moved_entry first (blocks_of N.blocks) π c) q
              ∙ ap (λ m. first_constant first (blocks_of N.blocks) m + length e.before) (ap π (number ∙ none_number k ∙ r) ∙ next ∙ sym r)
              ∙ ap (λ m. m + length e.before) (sym from)
              ∙ sym place

      by : (y : Option EntryConstant) → entry_constant zero first (blocks_of C.blocks) c ≡ y → γ' c ≡ γ c
      by None q = new q (entry_constant zero first (blocks_of N.blocks) c) refl ∙ sym (ap (moved_entry first (blocks_of C.blocks) π c) q)
      by (Some e) q =
          let (k, b, at, number, block, from, place, later, entries, rest) = from_is zero first C.blocks c e q in
          let (d, to, r, s) = i k b at in
          let found : entry_constant zero first (blocks_of N.blocks) c ≡ Some e = subst (λ Bs. entry_constant zero first Bs c ≡ Some e) (sym (new_blocks_are B C)) (behind_kept zero first (blocks_of C.blocks) (B ∷ []) c e q) in
          ap (moved_entry first (blocks_of N.blocks) π c) found
          ∙ ap (λ m. m + length e.before) (ap (λ m. first_constant first (blocks_of N.blocks) (π m)) (number ∙ none_number k) ∙ first_same (π k) d to ∙ ap (λ m. first_constant first (blocks_of C.blocks) (π m)) (sym (number ∙ none_number k)))
          ∙ sym (ap (moved_entry first (blocks_of C.blocks) π c) q)

  pub constants_same : moved_constant first (blocks_of (with_new_block B C).blocks) (blocks_of (with_new_block B C).blocks) π ≡ moved_constant first (blocks_of C.blocks) (blocks_of C.blocks) π
  constants_same = fun_ext constant_same

  -- So the cases are the same.
  pub same_identified : (Σ : Signature) → IsFreeFrom Σ first → IsContext Σ B.some → identified first π (with_new_block B C) ≡ with_new_block B (identified first π C)
  same_identified Σ free c = same_cases (identified first π N) (with_new_block B (identified first π C))
      (ap (λ g. move_blocks g N.blocks) constants_same ∙ added_commute γ ρ last (locals_moved γ B.some) C.blocks)
      (ap (λ g. move_types g N.variables) constants_same ∙ onto_moved γ B.some C.variables ∙ ap (λ O. onto O (move_types γ C.variables)) (context_old Σ γ old B.some c))
      (ap (λ g. move_all g N.given) constants_same ∙ all_commute γ ρ C.given)
      (ap (λ g. move_types g N.local) constants_same ∙ local_commutes γ ρ C.local)
      refl
      (ap (λ g. move_all g N.arguments) constants_same ∙ all_commute γ (lift_renaming_by (length C.local) ρ) C.arguments ∙ ap (λ n. rename_all (lift_renaming_by n ρ) (move_all γ C.arguments)) (sym (length_moved γ C.local)))
    where
      old : (d : ℕ) → IsOld Σ d → γ d ≡ d
      old d (A, t) = by (entry_constant zero first (blocks_of C.blocks) d) refl
        where
          by : (y : Option EntryConstant) → entry_constant zero first (blocks_of C.blocks) d ≡ y → γ d ≡ d
          by None q = ap (moved_entry first (blocks_of C.blocks) π d) q
          by (Some e) q = absurd (none_some (sym (free.types_free d (entry_from zero first (blocks_of C.blocks) d e q)) ∙ t))
