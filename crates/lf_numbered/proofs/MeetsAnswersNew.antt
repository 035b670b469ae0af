-- An entry's pattern beside a new block variable: the case with this has the block variable, which stays itself; so the store is one of an entry beside it.
use Rattle.std.proofs.Common.{◌≡◌, ◌≤◌, ℕ, zero, suc, ◌+◌, List, [], ◌∷◌, length, refl, sym, ap, ◌∙◌, subst}
use Rattle.std.specs.Prelude.{true, false, Option, Some, None}
use Rattle.lf.specs.Syntax.{Term, Spine, LfType, Kind}
use Rattle.lf.specs.Substitution.{Image}
use Rattle.lf.specs.AtOnce.{shift_by, lift_renaming_by}
use Rattle.lf.specs.Typing.{Signature, IsSignature}
use Rattle.lf.specs.Variables.{onto}
use Rattle.lf.specs.Subordination.{Block, AreTypedBlocks, Member}
use Rattle.lf_unification.specs.Offering.{local_arguments}
use Rattle.lf_unification.specs.Solving.{IsWellFormed, Solved}
use Rattle.lf_unification.specs.Unifiers.{Store}
use Rattle.lf_checks.specs.Clause.{entry_clause}
use Rattle.lf_cases.specs.Cover.{before}
use Rattle.lf_cases.specs.Pattern.{of_entry, Pattern}
use Rattle.lf_cases.proofs.OutputItems.{length_renumber}
use Rattle.lf_coverage.specs.Leaf.{IsTypedPattern}
use Rattle.lf_coverage.proofs.ItemsContext.{outer_context}
use Rattle.lf_numbered.specs.EntryConstants.{with_entries, IsFreeFrom}
use Rattle.lf_numbered.specs.EntryPatterns.{variable_images}
use Rattle.lf_numbered.specs.MeetsAnswers.{FitsPattern}
use Rattle.lf_numbered.specs.NewBlock.{rename_all, with_new_block}
use Rattle.lf_numbered.specs.NumberedCallsMeeting.{SharesInstance}
use Rattle.lf_numbered.specs.NumberedCallsStores.{Identifies, identified, meet_store_by_number}
use Rattle.lf_numbered.specs.NumberedCase.{NumberedCase}
use Rattle.lf_numbered.specs.NumberedInstance.{IsNumberedInstanceOf, block_at, moved_constant}
use Rattle.lf_numbered.specs.OwnTerms.{BlockVariable, blocks_of}
use Rattle.lf_numbered.specs.TypedNumbered.{IsTypedNumberedCase}
use Rattle.lf_numbered.proofs.IdentifiedNewBlock.{identifies_new, same_identified}
use Rattle.lf_numbered.proofs.MeetsAnswersBack.{instance_back}
use Rattle.lf_numbered.proofs.MeetsAnswersEntries.{of_entries}
use Rattle.lf_numbered.proofs.OwnStoresNewBlock.{new_block_stays_typed}
use Rattle.lf_numbered.proofs.RenamedBlocks.{moved_length, is_given_renamed}

all_length : (ρ : ℕ → ℕ) (Ms : List (Option Term)) → length (rename_all ρ Ms) ≡ length Ms
all_length ρ [] = refl
all_length ρ (Some M ∷ Ms) = ap suc (all_length ρ Ms)
all_length ρ (None ∷ Ms) = ap suc (all_length ρ Ms)

module _ (Σ : Signature) (ok : IsSignature Σ) (W : List Block) (typed : AreTypedBlocks Σ W) (first : ℕ) (free : IsFreeFrom Σ first) (C : NumberedCase) (tc : IsTypedNumberedCase Σ first W C) (B : Block) (m : Member B W) (π : ℕ → ℕ) (ids : Identifies C π) (fixed : π (length C.blocks) ≡ length C.blocks) where
  abbrev ρ : ℕ → ℕ
  ρ = shift_by (length B.some)

  abbrev new : BlockVariable
  new = record { block = B; terms = local_arguments B.some }

  abbrev pub C₁ : NumberedCase
  C₁ = with_new_block B C

  abbrev γ : ℕ → ℕ
  γ = moved_constant first (blocks_of C.blocks) (blocks_of C.blocks) π

  pub typed₁ : IsTypedNumberedCase Σ first W C₁
  typed₁ = new_block_stays_typed Σ ok W typed first free C tc B m

  pub ids₁ : Identifies C₁ π
  ids₁ = identifies_new first C B π ids fixed

  -- with the new block variable, the block variables are one as before
  pub identified_new : with_new_block B (identified first π C) ≡ identified first π C₁
  identified_new = sym (same_identified first C B π ids fixed Σ free (outer_context Σ B.entries B.some (typed B m)))

  fits₁ : (p : Pattern) (K : Kind) → FitsPattern Σ W C p K → FitsPattern Σ W C₁ p K
  fits₁ p K f = record {
    of_worlds = f.of_worlds;
    of_family = f.of_family;
    same_family = f.same_family;
    all_places = all_length (lift_renaming_by (length C.local) ρ) C.arguments ∙ f.all_places;
    same_local = length_renumber ρ C.local ∙ f.same_local;
    given_own = λ i u. f.given_own i (sym (is_given_renamed ρ C.given i) ∙ u);
  }

  module _ (K : Kind) (A : LfType) (oldest : (k : ℕ) → π k ≤ k) (finish : Store) (later : List LfType) (E : LfType) (es : List LfType) (e : onto later (E ∷ es) ≡ B.entries) where
    abbrev k : ℕ
    k = length (identified first π C).blocks

    abbrev p : Pattern
    p = record { clause = entry_clause B es E; origin = of_entry B later E es e; type = A; at_first = false }

    abbrev outer : NumberedCase → Spine → ℕ → Image
    outer J U = before later (variable_images first J.blocks k B U)

    abbrev Is : (Signature → Store → Type 0) → NumberedCase → Spine → Type 0
    Is P J U = P (with_entries Σ first (blocks_of J.blocks)) (meet_store_by_number π J p (outer J U) K)

    same_length : k ≡ length C.blocks
    same_length = moved_length γ C.blocks

    pub of_new : IsTypedPattern Σ p → FitsPattern Σ W C p K → (U : Spine) → block_at (with_new_block B (identified first π C)).blocks k ≡ Some (record { block = B; terms = U }) → Is IsWellFormed (with_new_block B (identified first π C)) U → Is (λ S s. Solved S s finish) (with_new_block B (identified first π C)) U → SharesInstance Σ first W C p
    of_new tp f U at form s =
        let stays : π k ≡ k = ap π same_length ∙ fixed ∙ sym same_length in
        let (h, numbers, blocks) = of_entries Σ ok W typed first free C₁ typed₁ K A false π ids₁ oldest finish B later E es e tp (fits₁ p K f) k stays (λ r. absurd (no r)) U (subst (λ J. block_at J.blocks k ≡ Some (record { block = B; terms = U })) identified_new at) (subst (λ J. Is IsWellFormed J U) identified_new form) (subst (λ J. Is (λ S z. Solved S z finish) J U) identified_new s) in
        record {
          common = h.common;
          typed_variables = h.typed_variables;
          numbers = π;
          zeroth = sym (ap (λ f. f zero) numbers) ∙ h.zeroth;
          values = λ i. h.values (i + length B.some);
          of_case = instance_back first C B π ids fixed Σ h.common h.values blocks (subst (λ f. IsNumberedInstanceOf Σ first h.common C₁ f h.values) numbers h.of_case);
          of_pattern = h.of_pattern;
        }
      where
        no : false ≡ true → ⊥
        no r = cc
