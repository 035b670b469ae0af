-- An instance of a case with a new block variable is one of the case, where the new block variable keeps its number.
use Rattle.std.proofs.Common.{◌≡◌, ℕ, zero, suc, ◌+◌, List, [], ◌∷◌, length, refl, sym, ap, ap₂, ◌∙◌, subst, arith}
use Rattle.std.specs.Prelude.{Option, Some, None}
use Rattle.lf.specs.Syntax.{Term, Spine, LfType, rename_spine}
use Rattle.lf.specs.Substitution.{Image, substitute, substitute_spine, substitute_type, reduce}
use Rattle.lf.specs.AtOnce.{shift_by, lift_renaming_by}
use Rattle.lf.specs.Typing.{Signature}
use Rattle.lf.specs.Variables.{onto}
use Rattle.lf.specs.Subordination.{Block}
use Rattle.lf.specs.Worlds.{lift_over, instance}
use Rattle.lf.proofs.Renaming.{substitute_renamed, substitute_renamed_spine}
use Rattle.lf.proofs.TypeLaws.{substitute_renamed_type}
use Rattle.lf_unification.specs.Offering.{local_arguments}
use Rattle.lf_cases.specs.Missing.{put_in}
use Rattle.lf_cases.specs.OutputGoal.{renumber}
use Rattle.lf_numbered.specs.EntryConstants.{EntryConstant, entry_constant, with_entries}
use Rattle.lf_numbered.specs.NewBlock.{rename_all, with_new_block}
use Rattle.lf_numbered.specs.NumberedCallsStores.{Identifies}
use Rattle.lf_numbered.specs.NumberedCase.{NumberedCase}
use Rattle.lf_numbered.specs.NumberedInstance.{AreTypedValues, IsNumberedInstanceOf, first_constant, moved_constant, moved_entry, move, move_all, move_spine, move_types}
use Rattle.lf_numbered.specs.OwnTerms.{BlockVariable, blocks_of, own_terms, rename_blocks}
use Rattle.lf_numbered.proofs.EntryPatternsNumbers.{earlier_at}
use Rattle.lf_numbered.proofs.IdentifiedNewBlock.{constant_same, first_same}
use Rattle.lf_numbered.proofs.NumberedReachedInstances.{over_renamed}
use Rattle.lf_numbered.proofs.RenamedBlocks.{local_commutes, renamed_at}
use Rattle.lf_numbered.proofs.WritingChoice.{from_is}
use Rattle.lf_numbered.proofs.WritingMove.{move_renamed, move_spine_renamed}
use mathlib.Core.Path.{fun_ext}

all_renamed : (δ : ℕ → ℕ) (ρ : ℕ → ℕ) (σ τ : ℕ → Image) → ((i : ℕ) → σ (ρ i) ≡ τ i) → (Ms : List (Option Term)) → put_in σ (move_all δ (rename_all ρ Ms)) ≡ put_in τ (move_all δ Ms)
all_renamed δ ρ σ τ h [] = refl
all_renamed δ ρ σ τ h (Some M ∷ Ms) = ap₂ (λ N Ns. Some N ∷ Ns) (ap (substitute reduce σ) (move_renamed δ ρ M) ∙ substitute_renamed reduce σ ρ (move δ M) ∙ ap (λ f. substitute reduce f (move δ M)) (fun_ext h)) (all_renamed δ ρ σ τ h Ms)
all_renamed δ ρ σ τ h (None ∷ Ms) = ap (λ Ns. None ∷ Ns) (all_renamed δ ρ σ τ h Ms)

local_renamed : (δ ρ : ℕ → ℕ) (υ : ℕ → Image) (L : List LfType) → instance (move_types δ (renumber ρ L)) υ ≡ instance (move_types δ L) (λ j. υ (ρ j))
local_renamed δ ρ υ L = ap (λ M. instance M υ) (local_commutes δ ρ L) ∙ by (move_types δ L)
  where
    by : (L : List LfType) → instance (renumber ρ L) υ ≡ instance L (λ j. υ (ρ j))
    by [] = refl
    by (A ∷ L) = ap₂ (λ B M. B ∷ M) (substitute_renamed_type reduce (lift_over (renumber ρ L) υ) (lift_renaming_by (length L) ρ) A ∙ ap (λ f. substitute_type reduce f A) (fun_ext (over_renamed ρ υ L))) (by L)

values_behind : (Σ : Signature) (Y : List LfType) (o : ℕ → Option Spine) (γ : ℕ → ℕ) (D X : List LfType) (σ : ℕ → Image) → AreTypedValues Σ Y o γ (onto D X) σ → AreTypedValues Σ Y o γ X (λ i. σ (i + length D))
values_behind Σ Y o γ [] X σ v = subst (AreTypedValues Σ Y o γ X) (fun_ext (λ i. ap σ (none i))) v
  where
    none : (i : ℕ) → i ≡ i + 0
    none i = omega arith
values_behind Σ Y o γ (A ∷ D) X σ (N, τ, v, t, w, e) = subst (AreTypedValues Σ Y o γ X) (fun_ext (λ i. sym (ap (λ f. f (suc (i + length D))) e) ∙ ap σ (next i (length D)))) (values_behind Σ Y o γ D X τ v)
  where
    next : (i n : ℕ) → suc (i + n) ≡ i + suc n
    next i n = omega arith

module _ (first : ℕ) (C : NumberedCase) (B : Block) (π : ℕ → ℕ) (ids : Identifies C π) (fixed : π (length C.blocks) ≡ length C.blocks) where
  abbrev ρ : ℕ → ℕ
  ρ = shift_by (length B.some)

  abbrev new : BlockVariable
  new = record { block = B; terms = local_arguments B.some }

  abbrev Bs : List Block
  Bs = blocks_of C.blocks

  abbrev Ds : List Block
  Ds = blocks_of (with_new_block B C).blocks

  none : (j : ℕ) → zero + j ≡ j
  none j = omega arith

  -- The constants are moved into the blocks of an instance with these as into those of the case.
  same_into : (c : ℕ) → moved_constant first (blocks_of C.blocks) (blocks_of (with_new_block B C).blocks) π c ≡ moved_constant first (blocks_of C.blocks) (blocks_of C.blocks) π c
  same_into c = by (entry_constant zero first Bs c) refl
    where
      by : (e : Option EntryConstant) → entry_constant zero first Bs c ≡ e → moved_entry first Ds π c e ≡ moved_entry first Bs π c e
      by None q = refl
      by (Some e) q =
          let (j, b, at, number, block, from, place, later, entries, rest) = from_is zero first C.blocks c e q in
          let (d, to, same, stays) = ids j b at in
          ap (λ i. first_constant first Ds (π i) + length e.before) (number ∙ none j)
          ∙ ap (λ m. m + length e.before) (first_same first C B π ids fixed (π j) d to)
          ∙ ap (λ i. first_constant first Bs (π i) + length e.before) (sym (number ∙ none j))

  -- The lemma
  module _ (Σ : Signature) (D : NumberedCase) (σ : ℕ → Image) (blocks : blocks_of D.blocks ≡ blocks_of (with_new_block B C).blocks) (h : IsNumberedInstanceOf Σ first D (with_new_block B C) π σ) where
    abbrev Σ₁ : Signature
    Σ₁ = with_entries Σ first (blocks_of D.blocks)

    abbrev τ : ℕ → Image
    τ i = σ (i + length B.some)

    abbrev δ : ℕ → ℕ
    δ = moved_constant first (blocks_of (with_new_block B C).blocks) (blocks_of D.blocks) π

    moves : δ ≡ moved_constant first (blocks_of C.blocks) (blocks_of D.blocks) π
    moves = ap (λ Es. moved_constant first Ds Es π) blocks ∙ fun_ext (λ c. constant_same first C B π ids fixed c ∙ sym (same_into c)) ∙ ap (λ Es. moved_constant first Bs Es π) (sym blocks)

    pub instance_back : IsNumberedInstanceOf Σ first D C π (λ i. σ (i + length B.some))
    instance_back = record {
      is_instance = record {
        blocks = λ k b e.
            h.is_instance.blocks k (record { block = b.block; terms = rename_spine ρ b.terms }) (earlier_at (rename_blocks ρ C.blocks) (new ∷ []) k _ (renamed_at ρ C.blocks k b e))
            ∙ ap (λ U. Some (record { block = b.block; terms = U })) (ap (substitute_spine reduce σ) (move_spine_renamed δ ρ b.terms) ∙ substitute_renamed_spine reduce σ ρ (move_spine δ b.terms) ∙ ap (λ g. substitute_spine reduce τ (move_spine g b.terms)) moves);
        values = subst (λ g. AreTypedValues Σ₁ D.variables (own_terms first D.blocks) g C.variables τ) moves (values_behind Σ₁ D.variables (own_terms first D.blocks) δ B.some C.variables σ h.is_instance.values);
      };
      family = h.family;
      given = h.given ∙ all_renamed δ ρ σ τ (λ i. refl) C.given ∙ ap (λ g. put_in τ (move_all g C.given)) moves;
      local = h.local ∙ local_renamed δ ρ σ C.local ∙ ap (λ g. instance (move_types g C.local) τ) moves;
      arguments = h.arguments ∙ all_renamed δ (lift_renaming_by (length C.local) ρ) (lift_over (renumber ρ C.local) σ) (lift_over C.local τ) (over_renamed ρ σ C.local) C.arguments ∙ ap (λ g. put_in (lift_over C.local τ) (move_all g C.arguments)) moves;
    }
