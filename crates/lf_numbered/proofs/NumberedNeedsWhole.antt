-- A typed case by number is one into which its own variables are put, eta-long.
use Rattle.std.proofs.Common.{◌≡◌, ℕ, List, [], ◌∷◌, refl, sym, ap, ap₂, ◌∙◌, subst}
use Rattle.std.specs.Prelude.{Option}
use Rattle.lf.specs.Syntax.{variable, Spine, nil, LfType, skeleton}
use Rattle.lf.specs.Eta.{eta_long}
use Rattle.lf.specs.Substitution.{keep, substitute, substitute_spine, reduce}
use Rattle.lf.specs.Skeletons.{constant_skeletons, context_skeletons}
use Rattle.lf.specs.Typing.{Signature, TypeAt, HasType, IsContext, IsSignature}
use Rattle.lf.specs.Variables.{nothing}
use Rattle.lf.specs.Subordination.{Block, AreTypedBlocks}
use Rattle.lf.proofs.EtaTyping.{eta_long_has_type}
use Rattle.lf.proofs.Substitution.{typed_substitution_by_skeletons}
use Rattle.lf.proofs.ToSkeletons.{type_by_skeletons, variable_has_skeleton}
use Rattle.lf.proofs.Weakening.{declared_is_type}
use Rattle.lf_cases.specs.Case.{as_term}
use Rattle.lf_cases.proofs.LongValues.{long_at}
use Rattle.lf_totality.proofs.After.{Extends-self}
use Rattle.lf_coverage.proofs.LongValuesStay.{local_stays, term_stays, terms_stay, type_stays}
use Rattle.lf_coverage.proofs.StoreSolution.{long_at_is}
use Rattle.lf_numbered.specs.EntryConstants.{with_entries, IsFreeFrom}
use Rattle.lf_numbered.specs.NumberedCase.{NumberedCase, AreTypedBlockVariables}
use Rattle.lf_numbered.specs.OwnTerms.{BlockVariable, blocks_of, own_terms, put_in_blocks}
use Rattle.lf_numbered.specs.TypedNumbered.{IsTypedNumberedCase}
use Rattle.lf_numbered.proofs.EntryPatternsMatching.{entries_signature}
use Rattle.lf_numbered.proofs.EntryValues.{put_add as put_last}
use Rattle.lf_numbered.proofs.NumberedNeedsInto.{IsPutInto}
use Rattle.lf_numbered.proofs.NumberedReachedInstances.{nothing_behind}
use Rattle.lf_numbered.proofs.OwnLong.{variable_own}
use Rattle.lf_numbered.proofs.OwnValuesInstances.{some_mapped, term_fits}

-- So the block variables stay.
blocks_stay : (Σ : Signature) (O : List LfType) → IsSignature Σ → (W : List Block) (o : ℕ → Option Spine) (bs : List BlockVariable) → AreTypedBlockVariables Σ W O o bs → put_in_blocks (long_at O keep) bs ≡ bs
blocks_stay Σ O ok W o [] t = refl
blocks_stay Σ O ok W o (b ∷ bs) (m, (τ, u, z), w, t) = ap₂ (λ U cs. record { block = b.block; terms = U } ∷ cs) (ap (substitute_spine reduce (long_at O keep)) z ∙ some_mapped (substitute_spine reduce (long_at O keep)) (λ S. S) (substitute reduce (long_at O keep)) (λ N. N) refl (put_last (long_at O keep)) (λ S N. refl) b.block.some τ each ∙ sym z) (blocks_stay Σ O ok W o bs t)
  where
    each : (j : ℕ) (A : LfType) → TypeAt b.block.some j A → substitute reduce (long_at O keep) (as_term (skeleton A) (τ j)) ≡ as_term (skeleton A) (τ j)
    each j A h = term_stays Σ O [] (as_term (skeleton A) (τ j)) (skeleton A) (term_fits (constant_skeletons Σ) (context_skeletons O) (skeleton A) (τ j) (typed_substitution_by_skeletons Σ ok b.block.some O τ u j (skeleton A) (variable_has_skeleton b.block.some j A h)))

-- The lemma
pub whole_put_into : (Σ : Signature) → IsSignature Σ → (W : List Block) → AreTypedBlocks Σ W → (first : ℕ) → IsFreeFrom Σ first → (C : NumberedCase) → IsTypedNumberedCase Σ first W C → IsPutInto Σ first C C
whole_put_into Σ ok W typed first free C tc =
    let O : List LfType = C.variables in
    let Σ₁ : Signature = with_entries Σ first (blocks_of C.blocks) in
    let ok₁ : IsSignature Σ₁ = entries_signature Σ ok W typed first free C tc in
    let c : IsContext Σ₁ C.variables = tc.variables.variables in
    record {
      values = long_at C.variables keep;
      further = [];
      more = Extends-self nothing Σ₁ ok₁;
      blocks = sym (blocks_stay Σ₁ O ok₁ W (own_terms first C.blocks) C.blocks tc.variables.blocks) ∙ nothing_behind (put_in_blocks (long_at C.variables keep) C.blocks);
      given = sym (terms_stay Σ₁ O [] C.given tc.given);
      local = sym (local_stays Σ₁ O C.local tc.local);
      family = refl;
      arguments = sym (terms_stay Σ₁ O C.local C.arguments tc.arguments);
      terms = λ i A k. (
        eta_long (skeleton A) (variable i),
        long_at_is C.variables keep i A k,
        subst (HasType Σ₁ C.variables (eta_long (skeleton A) (variable i))) (sym (type_stays Σ₁ O [] A (type_by_skeletons Σ₁ C.variables A (declared_is_type Σ₁ ok₁ C.variables i A c k)))) (eta_long_has_type Σ₁ ok₁ C.variables (variable i) A c k),
        variable_own (own_terms first C.blocks) (skeleton A) i nil tt,
      );
    }
