-- The head of a clause for a case of inputs is one for each case that comes from it by new block variables and by splits that unification solves.
use Rattle.std.proofs.Common.{◌≡◌, ℕ, ◌+◌, List, [], length, refl, sym, ap, ◌∙◌, subst}
use Rattle.std.specs.Prelude.{Bool}
use Rattle.lf.specs.Syntax.{LfType}
use Rattle.lf.specs.Substitution.{Image, keep, substitute_spine, reduce}
use Rattle.lf.specs.AtOnce.{lift_renaming_by, shift_by}
use Rattle.lf.specs.Skeletons.{constant_skeletons, context_skeletons}
use Rattle.lf.specs.Typing.{Signature, TypeAt, IsSignature, IsTypedSubstitution}
use Rattle.lf.specs.Variables.{nothing, onto}
use Rattle.lf.specs.Subordination.{Block, AreTypedBlocks, Member}
use Rattle.lf.specs.Worlds.{lift_over, instance}
use Rattle.lf.specs.Extension.{Extends}
use Rattle.lf.proofs.ExtensionTyping.{extension_keeps_contexts}
use Rattle.lf.proofs.ToSkeletons.{skeleton_has_variable}
use Rattle.lf.proofs.TypeLaws.{substitution_as_renaming_type}
use Rattle.lf_checks.specs.Marks.{MentionChosenOnly, TypedPlaces}
use Rattle.lf_cases.specs.Case.{covered_places}
use Rattle.lf_cases.specs.Missing.{put_in}
use Rattle.lf_cases.specs.OutputGoal.{renumber}
use Rattle.lf_cases.specs.Pattern.{Pattern}
use Rattle.lf_cases.specs.Reached.{arguments_count}
use Rattle.lf_cases.proofs.OutputItems.{length_instance, length_renumber}
use Rattle.lf_totality.proofs.After.{Extends-self}
use Rattle.lf_totality.proofs.OutputCases.{in_covers}
use Rattle.lf_coverage.specs.Heads.{HaveSkeletons}
use Rattle.lf_coverage.specs.Matching.{ArePlaces}
use Rattle.lf_coverage.specs.SplitStore.{answer_values}
use Rattle.lf_coverage.proofs.Carried.{carry, carry_same}
use Rattle.lf_coverage.proofs.HeadSplit.{places_put_in}
use Rattle.lf_numbered.specs.EntryConstants.{IsFreeFrom, with_entries}
use Rattle.lf_numbered.specs.NewBlock.{rename_all, with_new_block}
use Rattle.lf_numbered.specs.NumberedCalls.{IsHeadFor}
use Rattle.lf_numbered.specs.NumberedCase.{NumberedCase}
use Rattle.lf_numbered.specs.OwnStores.{ComesByNumbers, no_split, then_block, then_split, solved_numbered}
use Rattle.lf_numbered.specs.OwnTerms.{blocks_of, put_in_blocks}
use Rattle.lf_numbered.specs.TypedNumbered.{IsTypedNumberedCase}
use Rattle.lf_numbered.proofs.EntryPatternsMatching.{entries_signature}
use Rattle.lf_numbered.proofs.EntryPatternsSplits.{all_renamed, lifted_keep, put_same}
use Rattle.lf_numbered.proofs.NumberedNeedsPlaces.{places_more, places_put, typed_places_put}
use Rattle.lf_numbered.proofs.OwnStoresNewBlock.{new_block_stays_typed, extends, renames}
use Rattle.lf_numbered.proofs.OwnStoresSplit.{numbered_split_stays_typed, values_typed}
use Rattle.lf_numbered.proofs.OwnStoresTyped.{numbered_run_stays_typed}
use Rattle.lf_numbered.proofs.OwnTerms.{put_in_keeps}

module _ (Σ : Signature) (ok : IsSignature Σ) (W : List Block) (typed : AreTypedBlocks Σ W) (first : ℕ) (free : IsFreeFrom Σ first) (p : Pattern) where
  -- D has the arguments of C with typed values put in, over a signature with entries that extends that of C.
  module _ (C D : NumberedCase) (tc : IsTypedNumberedCase Σ first W C) (td : IsTypedNumberedCase Σ first W D) (x : Extends nothing (with_entries Σ first (blocks_of C.blocks)) (with_entries Σ first (blocks_of D.blocks))) (υ : ℕ → Image) (ts : IsTypedSubstitution (with_entries Σ first (blocks_of D.blocks)) C.variables D.variables υ) (ef : D.family ≡ C.family) (ea : D.arguments ≡ put_in (lift_over C.local υ) C.arguments) where
    abbrev Σ₁ : Signature
    Σ₁ = with_entries Σ first (blocks_of C.blocks)

    abbrev Σ₂ : Signature
    Σ₂ = with_entries Σ first (blocks_of D.blocks)

    abbrev σ : ℕ → Image
    σ = carry C.variables D.variables υ

    same_values : (Γ : List LfType) → Γ ≡ [] → HaveSkeletons (constant_skeletons Σ₁) (context_skeletons (onto Γ C.variables)) C.arguments → put_in (lift_over Γ υ) C.arguments ≡ put_in σ C.arguments
    same_values Γ e h = ap (λ L. put_in (lift_over L υ) C.arguments) e ∙ put_same (constant_skeletons Σ₁) (context_skeletons C.variables) υ σ (λ i t g. let (A, k, q) = skeleton_has_variable C.variables i t g in sym (carry_same C.variables D.variables υ i (in_covers C.variables i A k))) C.arguments (subst (λ L. HaveSkeletons (constant_skeletons Σ₁) (context_skeletons (onto L C.variables)) C.arguments) e h)

    head_put : D.given ≡ [] → D.local ≡ [] → IsHeadFor Σ first C p → IsHeadFor Σ first D p
    head_put ng nl h =
        let ok₂ : IsSignature Σ₂ = entries_signature Σ ok W typed first free D td in
        let a : D.arguments ≡ put_in σ C.arguments = ea ∙ same_values C.local h.no_local tc.arguments in
        let places : covered_places D.arguments ≡ covered_places C.arguments = ap covered_places a ∙ places_put_in σ C.arguments in
        record {
          is_head = h.is_head;
          none_given = ng;
          no_local = nl;
          kind = h.kind;
          of_family = ap Σ.kinds ef ∙ h.of_family;
          covered_only = subst (λ m. MentionChosenOnly nothing m h.kind) (sym places) h.covered_only;
          tuple = substitute_spine reduce σ h.tuple;
          at_places = subst (λ Ms. ArePlaces Ms (substitute_spine reduce σ h.tuple)) (sym a) (places_put σ C.arguments h.tuple h.at_places);
          typed_places = subst (λ m. TypedPlaces Σ₂ m D.variables (substitute_spine reduce σ h.tuple) h.kind) (sym places) (typed_places_put Σ₂ ok₂ C.variables D.variables υ (extension_keeps_contexts nothing Σ₁ Σ₂ x C.variables tc.variables.variables) td.variables.variables ts (covered_places C.arguments) h.tuple h.kind (ok₂.kinds_ok C.family h.kind h.of_family) h.covered_only (places_more Σ₁ Σ₂ x.types_stay (λ b K e. e) C.variables (covered_places C.arguments) keep h.tuple h.kind h.typed_places));
        }

  block_keeps_head : (C : NumberedCase) → IsTypedNumberedCase Σ first W C → (B : Block) → Member B W → IsHeadFor Σ first C p → IsHeadFor Σ first (with_new_block B C) p
  block_keeps_head C tc B m h =
      let l : ℕ = length B.some in
      let υ : ℕ → Image = λ i. keep (i + length B.some) in
      head_put C (with_new_block B C) tc (new_block_stays_typed Σ ok W typed first free C tc B m) (extends Σ ok W typed first free C tc B m) υ
      (λ i A g. subst (TypeAt (onto B.some C.variables) (i + l)) (sym (substitution_as_renaming_type reduce (shift_by l) A)) (renames Σ ok W typed first free C tc B m i A g))
      refl
      (sym (all_renamed 0 (lift_renaming_by (length C.local) (shift_by l)) (lift_over C.local υ) (lifted_keep C.local (shift_by l)) C.arguments))
      (ap (rename_all (shift_by l)) h.none_given)
      (ap (renumber (shift_by l)) h.no_local)
      h

  run_keeps_head : (below : ℕ → ℕ → Bool) (C D : NumberedCase) → IsTypedNumberedCase Σ first W C → ComesByNumbers Σ W first below C D → IsHeadFor Σ first C p → IsHeadFor Σ first D p
  run_keeps_head below C _ tc no_split h = h
  run_keeps_head below C _ tc (then_block {D = E} B r m) h = block_keeps_head E (numbered_run_stays_typed Σ ok W typed first free below C tc E r) B m (run_keeps_head below C E tc r h)
  run_keeps_head below C _ tc (then_split {D = E} y X k U A K after r at f e s) h =
      let te : IsTypedNumberedCase Σ first W E = numbered_run_stays_typed Σ ok W typed first free below C tc E r in
      let g : IsHeadFor Σ first E p = run_keeps_head below C E tc r h in
      let υ : ℕ → Image = λ i. answer_values after s.well_formed.order (i + arguments_count A) in
      let q : blocks_of (put_in_blocks υ E.blocks) ≡ blocks_of E.blocks = put_in_keeps υ E.blocks in
      let Σ₃ : Signature = with_entries Σ first (blocks_of E.blocks) in
      let D : NumberedCase = solved_numbered E (arguments_count A) after s.well_formed.order in
      head_put E D te (numbered_split_stays_typed Σ ok W typed first free below E te y X at k U A f K e after s)
      (subst (λ Bs. Extends nothing Σ₃ (with_entries Σ first Bs)) (sym q) (Extends-self nothing Σ₃ (entries_signature Σ ok W typed first free E te))) υ
      (subst (λ Bs. IsTypedSubstitution (with_entries Σ first Bs) E.variables D.variables υ) (sym q) (values_typed Σ ok W typed first free below E te y X at k U A f K e after s))
      refl refl
      (ap (put_in υ) g.none_given)
      (ap (λ L. instance L υ) g.no_local)
      g

-- The lemma
pub head_stays : (Σ : Signature) → IsSignature Σ → (W : List Block) → AreTypedBlocks Σ W → (first : ℕ) → IsFreeFrom Σ first → (below : ℕ → ℕ → Bool) (p : Pattern) (C : NumberedCase) → IsTypedNumberedCase Σ first W C → (D : NumberedCase) → ComesByNumbers Σ W first below C D → IsHeadFor Σ first C p → IsHeadFor Σ first D p
head_stays Σ ok W typed first free below p C tc D r h = run_keeps_head Σ ok W typed first free p below C D tc r h

-- the local context keeps its length
pub comes_length : (Σ : Signature) (W : List Block) (first : ℕ) (below : ℕ → ℕ → Bool) (C D : NumberedCase) → ComesByNumbers Σ W first below C D → length D.local ≡ length C.local
comes_length Σ W first below C _ no_split = refl
comes_length Σ W first below C _ (then_block {D = E} B r m) = length_renumber (shift_by (length B.some)) E.local ∙ comes_length Σ W first below C E r
comes_length Σ W first below C _ (then_split {D = E} y X k U A K after r at f e s) = length_instance E.local (λ i. answer_values after s.well_formed.order (i + arguments_count A)) ∙ comes_length Σ W first below C E r
