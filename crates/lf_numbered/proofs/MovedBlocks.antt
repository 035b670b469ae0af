-- Constants of block variables, moved to those of others of the same blocks, keep their types, whatever the terms of the block variables are.
use Rattle.std.proofs.Common.{◌≡◌, ℕ, zero, ◌+◌, ◌⊎◌, List, [], ◌∷◌, length, inl, inr, refl, sym, ap, ap₂, ◌∙◌, subst, arith}
use Rattle.std.specs.Prelude.{Option, Some, None}
use Rattle.lf.specs.Syntax.{Spine, LfType, Kind}
use Rattle.lf.specs.Substitution.{keep, substitute_type, reduce}
use Rattle.lf.specs.Typing.{Signature, IsContext, IsSignature}
use Rattle.lf.specs.Variables.{onto}
use Rattle.lf.specs.Subordination.{Block}
use Rattle.lf_unification.specs.Offering.{pi_over, local_arguments}
use Rattle.lf_coverage.proofs.ItemsContext.{outer_context}
use Rattle.lf_coverage.proofs.Parts.{none_some, some_same}
use Rattle.lf_numbered.specs.EntryConstants.{EntryConstant, entry_constant, entry_constant_type, entry_images, entry_type, with_entries, IsFreeFrom}
use Rattle.lf_numbered.specs.NumberedInstance.{block_at, first_constant, moved_constant, moved_entry, move_type}
use Rattle.lf_numbered.specs.OwnTerms.{BlockVariable, blocks_of}
use Rattle.lf_numbered.specs.WritingRoom.{move_image, move_kind}
use Rattle.lf_numbered.proofs.EntryPatternsOutside.{found_at_number}
use Rattle.lf_numbered.proofs.EntrySignature.{else_cases, else_first, else_second}
use Rattle.lf_numbered.proofs.MovedConstants.{images_moved, later_context, locals_moved, onto_twice, pis_moved}
use Rattle.lf_numbered.proofs.OwnTerms.{entry_from}
use Rattle.lf_numbered.proofs.Reading.{IsOld}
use Rattle.lf_numbered.proofs.WritingChoice.{from_is}
use Rattle.lf_numbered.proofs.WritingGap.{same_old, kind_only}
use Rattle.lf_numbered.proofs.WritingMove.{move_type_substituted}
use mathlib.Core.Path.{fun_ext}

-- each block variable of the one list becomes one of the other with the same block
abbrev pub KeepBlocks : List BlockVariable → List BlockVariable → (ℕ → ℕ) → Type 0
KeepBlocks bs cs κ = (k : ℕ) (b : BlockVariable) → block_at bs k ≡ Some b → (d : BlockVariable) × (block_at cs (κ k) ≡ Some d) × (d.block ≡ b.block)

abbrev pub AreTypedIn : Signature → List BlockVariable → Type 0
AreTypedIn Σ bs = (k : ℕ) (b : BlockVariable) → block_at bs k ≡ Some b → IsContext Σ (onto b.block.entries b.block.some)

module _ (Σ : Signature) (ok : IsSignature Σ) (first : ℕ) (free : IsFreeFrom Σ first) (bs cs : List BlockVariable) (κ : ℕ → ℕ) (same : KeepBlocks bs cs κ) (typed : AreTypedIn Σ bs) where
  abbrev γ : ℕ → ℕ
  γ = moved_constant first (blocks_of bs) (blocks_of cs) κ

  none : (j : ℕ) → zero + j ≡ j
  none j = omega arith

  pub old_stay : (c : ℕ) → IsOld Σ c → moved_constant first (blocks_of bs) (blocks_of cs) κ c ≡ c
  old_stay c (A, t) = by (entry_constant zero first (blocks_of bs) c) refl
    where
      by : (e : Option EntryConstant) → entry_constant zero first (blocks_of bs) c ≡ e → γ c ≡ c
      by None q = ap (moved_entry first (blocks_of cs) κ c) q
      by (Some e) q = absurd (none_some (sym (free.types_free c (entry_from zero first (blocks_of bs) c e q)) ∙ t))

  pub entry_moved : (j : ℕ) (b : BlockVariable) → block_at bs j ≡ Some b → (later : List LfType) (E : LfType) (es : List LfType) → onto later (E ∷ es) ≡ b.block.entries → moved_constant first (blocks_of bs) (blocks_of cs) κ (first_constant first (blocks_of bs) j + length es) ≡ first_constant first (blocks_of cs) (κ j) + length es
  entry_moved j b at later E es e = ap (moved_entry first (blocks_of cs) κ (first_constant first (blocks_of bs) j + length es)) (found_at_number zero first bs j b at later E es e) ∙ ap (λ k. first_constant first (blocks_of cs) (κ k) + length es) (none j)

  type_moved : (j : ℕ) (b : BlockVariable) → block_at bs j ≡ Some b → (later : List LfType) (E : LfType) (es : List LfType) → onto later (E ∷ es) ≡ b.block.entries → move_type γ (entry_constant_type (first_constant first (blocks_of bs) j) b.block.some es E) ≡ entry_constant_type (first_constant first (blocks_of cs) (κ j)) b.block.some es E
  type_moved j b at later E es e =
      let O : List LfType = b.block.some in
      let U : Spine = local_arguments b.block.some in
      let c : IsContext Σ (onto (E ∷ es) O) = later_context Σ later (E ∷ es) O (subst (λ L. IsContext Σ (onto L b.block.some)) (sym e) (typed j b at)) in
      let n : ℕ = first_constant first (blocks_of cs) (κ j) in
      let moved : (i : ℕ) → move_image γ (entry_images (first_constant first (blocks_of bs) j) U es keep i) ≡ entry_images n U es keep i = λ i. images_moved γ (first_constant first (blocks_of bs) j) n U keep es (λ l F ds q. entry_moved j b at (onto later (E ∷ l)) F ds (onto_twice later E l (F ∷ ds) ∙ ap (λ L. onto later (E ∷ L)) q ∙ e)) i ∙ ap (λ V. entry_images n V es keep i) (locals_moved γ O) in
      pis_moved Σ γ old_stay O (substitute_type reduce (entry_images (first_constant first (blocks_of bs) j) U es keep) E) (outer_context Σ (E ∷ es) O c)
      ∙ ap (pi_over O) (move_type_substituted γ (entry_images (first_constant first (blocks_of bs) j) U es keep) E ∙ ap₂ (λ f Z. substitute_type reduce f Z) (fun_ext moved) (same_old Σ γ (onto es O) E old_stay c.1))

  pub types_moved : (c : ℕ) (A : LfType) → (with_entries Σ first (blocks_of bs)).types c ≡ Some A → (with_entries Σ first (blocks_of cs)).types (moved_constant first (blocks_of bs) (blocks_of cs) κ c) ≡ Some (move_type (moved_constant first (blocks_of bs) (blocks_of cs) κ) A)
  types_moved c A q = by (else_cases (Σ.types c) (entry_type (entry_constant zero first (blocks_of bs) c)) A q)
    where
      entry : (e : Option EntryConstant) → entry_constant zero first (blocks_of bs) c ≡ e → entry_type e ≡ Some A → (with_entries Σ first (blocks_of cs)).types (γ c) ≡ Some (move_type γ A)
      entry None q t = absurd (none_some t)
      entry (Some e) q t =
          let (j, b, at, number, block, from, place, later, entries, rest) = from_is zero first bs c e q in
          let (d, there, s) = same j b at in
          let to : γ c ≡ first_constant first (blocks_of cs) (κ j) + length e.before = ap γ (place ∙ ap (λ m. m + length e.before) from) ∙ entry_moved j b at later e.entry e.before entries in
          let found = found_at_number zero first cs (κ j) d there later e.entry e.before (entries ∙ ap (λ (B : Block). B.entries) (sym s)) in
          let type : A ≡ entry_constant_type (first_constant first (blocks_of bs) j) b.block.some e.before e.entry = sym (some_same t) ∙ ap₂ (λ m (B : Block). entry_constant_type m B.some e.before e.entry) from block in
          ap (λ d. (with_entries Σ first (blocks_of cs)).types d) to
          ∙ else_second (Σ.types (first_constant first (blocks_of cs) (κ j) + length e.before)) (entry_type (entry_constant zero first (blocks_of cs) (first_constant first (blocks_of cs) (κ j) + length e.before))) (Some (entry_constant_type (first_constant first (blocks_of cs) (κ j)) d.block.some e.before e.entry)) (free.types_free (first_constant first (blocks_of cs) (κ j) + length e.before) (entry_from zero first (blocks_of cs) (first_constant first (blocks_of cs) (κ j) + length e.before) _ found)) (ap entry_type found)
          ∙ ap (λ (B : Block). Some (entry_constant_type (first_constant first (blocks_of cs) (κ j)) B.some e.before e.entry)) s
          ∙ ap Some (sym (ap (move_type γ) type ∙ type_moved j b at later e.entry e.before entries))

      by : (Σ.types c ≡ Some A) ⊎ (entry_type (entry_constant zero first (blocks_of bs) c) ≡ Some A) → (with_entries Σ first (blocks_of cs)).types (γ c) ≡ Some (move_type γ A)
      by (inl t) = ap (λ d. (with_entries Σ first (blocks_of cs)).types d) (old_stay c (A, t)) ∙ else_first (Σ.types c) (entry_type (entry_constant zero first (blocks_of cs) c)) A t ∙ ap Some (sym (same_old Σ γ [] A old_stay (ok.types_ok c A t)))
      by (inr t) = entry (entry_constant zero first (blocks_of bs) c) refl t

  pub kinds_moved : (a : ℕ) (K : Kind) → (with_entries Σ first (blocks_of bs)).kinds a ≡ Some K → (with_entries Σ first (blocks_of cs)).kinds a ≡ Some (move_kind (moved_constant first (blocks_of bs) (blocks_of cs) κ) K)
  kinds_moved a K e = e ∙ ap Some (sym (kind_only Σ γ [] K old_stay (ok.kinds_ok a K e)))
