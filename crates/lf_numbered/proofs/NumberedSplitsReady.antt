-- A ground instance that gives a variable a head that is offered, written, is a typed unifier of the head's store, on own terms, over the signature with
-- entries of the extension; and there the store is well formed.
use Rattle.std.proofs.Common.{◌≡◌, ℕ, zero, List, [], ◌+◌, length, Some, sym, ap, ◌∙◌, subst}
use Rattle.std.specs.Prelude.{Bool}
use Rattle.lf.specs.Syntax.{Head, Term, Spine, root, LfType, atom, Kind, skeleton, rename_spine, rename_type}
use Rattle.lf.specs.Substitution.{Image, put, substitute_type, reduce}
use Rattle.lf.specs.AtOnce.{shift_by}
use Rattle.lf.specs.Eta.{lambdas}
use Rattle.lf.specs.SkeletonTyping.{TermSkeleton}
use Rattle.lf.specs.Skeletons.{constant_skeletons, context_skeletons}
use Rattle.lf.specs.Typing.{Signature, TypeAt, SpineType, IsType, IsContext, IsTypedSubstitution, IsTypedRenaming, IsSignature}
use Rattle.lf.specs.Variables.{target, onto, binders, nothing}
use Rattle.lf.specs.Subordination.{Block, SelfContained}
use Rattle.lf.specs.Worlds.{World}
use Rattle.lf.proofs.Closed.{closed_type_renamed}
use Rattle.lf.proofs.Growth.{growth_keeps_spine_typing, growth_keeps_types}
use Rattle.lf.proofs.ToSkeletons.{typed_has_skeleton}
use Rattle.lf.proofs.TypeLaws.{skeleton_renamed, skeleton_substituted}
use Rattle.lf.proofs.Weakening.{renaming_keeps_spine_typing}
use Rattle.lf_checks.specs.Below.{IsSubordination}
use Rattle.lf_unification.specs.Offering.{pi_over}
use Rattle.lf_unification.specs.Solving.{IsWellFormed, Solved}
use Rattle.lf_unification.specs.Steps.{CanRefute}
use Rattle.lf_unification.specs.Unifiers.{Solution, Store}
use Rattle.lf_unification.proofs.Runs.{run_refuted}
use Rattle.lf_cases.specs.Case.{Item, items_context}
use Rattle.lf_cases.specs.Missing.{AreTypedItems}
use Rattle.lf_cases.specs.OutputGoal.{free_variables}
use Rattle.lf_cases.specs.Reached.{arguments_count, head_masks, taken, split_items}
use Rattle.lf_cases.specs.Split.{HasNoBlockVariable}
use Rattle.lf_totality.proofs.RaisedOutputs.{binders_over}
use Rattle.lf_coverage.specs.Heads.{ArgumentsAreBelow, term_type}
use Rattle.lf_coverage.specs.AppliedStore.{applied_term}
use Rattle.lf_coverage.proofs.Forms.{far_type, no_shift_type}
use Rattle.lf_coverage.proofs.GroundTyped.{ground_typed}
use Rattle.lf_coverage.proofs.AppliedHead.{AppliesTo, applied_items, applied_context, applied_place, term_typed}
use Rattle.lf_coverage.proofs.AppliedReady.{applied_ready, term_is_type}
use Rattle.lf_coverage.proofs.Parts.{some_same}
use Rattle.lf_coverage.proofs.RefutedSplits.{run_in_extension, solved_extended}
use Rattle.lf_coverage.proofs.SolvedCase.{all_free, free_context_is, free_without, heads_without}
use Rattle.lf_coverage.proofs.SomeHead.{free_value}
use Rattle.lf_numbered.specs.EntryConstants.{with_entries}
use Rattle.lf_numbered.specs.NumberedBeside.{TakesIn}
use Rattle.lf_numbered.specs.NumberedCase.{NumberedCase}
use Rattle.lf_numbered.specs.OwnStores.{left_type, IsNumberedOffer, offer_signature, offer_taken, offer_entry, numbered_store}
use Rattle.lf_numbered.specs.OwnTerms.{blocks_of}
use Rattle.lf_numbered.specs.Writing.{IsWriting}
use Rattle.lf_numbered.specs.WritingLaws.{IsInstanceWithRoom}
use Rattle.lf_numbered.proofs.EntrySignature.{entries_kept}
use Rattle.lf_numbered.proofs.NumberedSplitsHeads.{MakesWritten}
use Rattle.lf_numbered.proofs.NumberedSplitsSolution.{context_filling, applied_solution}
use Rattle.lf_numbered.proofs.OwnStoresEntry.{OwnHead, left_is, own_head}
use Rattle.lf_numbered.proofs.OwnStoresOffers.{Offered, offered, spine_then}
use Rattle.lf_numbered.proofs.WritingHead.{items_written, v}
use Rattle.lf_numbered.proofs.WritingInstance.{written_signature, types_more, entries_extend}

module _ (Σ Σ' : Signature) {W : List Block} {S : ℕ → Bool} {G : List LfType} (w : World Σ' W S G) (first : ℕ) (C : NumberedCase) (θ : ℕ → ℕ → Image) (σ : ℕ → Image) (r : IsInstanceWithRoom Σ w first C θ σ) (F : List LfType) (ρ : ℕ → Image) (back : ℕ → ℕ) (hw : IsWriting Σ' first (blocks_of C.blocks) θ G F ρ back) (sc : SelfContained Σ W S) (below : ℕ → ℕ → Bool) (s : IsSubordination Σ W below) (x : ℕ) (X : LfType) (at : TypeAt C.variables x X) (fams : TakesIn S X) (args : ArgumentsAreBelow below X) (h0 : Head) (T : Spine) (e : σ x ≡ put (skeleton X) (lambdas (length (taken X)) (root h0 T))) where
  abbrev Σ₁ : Signature
  Σ₁ = with_entries Σ first (blocks_of C.blocks)

  abbrev Σe : Signature
  Σe = with_entries Σ' first (blocks_of C.blocks)

  abbrev ok : IsSignature Σe
  ok = written_signature Σ Σ' w first C θ σ r

  abbrev V : List LfType
  V = C.variables

  abbrev I : List Item
  I = free_variables C.variables

  abbrev D0 : List LfType
  D0 = taken (rename_type (shift_by 0) X)

  abbrev G0 : List LfType
  G0 = onto (taken (rename_type (shift_by 0) X)) (items_context (free_variables C.variables))

  module _ (h : Head) (U : Spine) (A : LfType) (offer : IsNumberedOffer Σ first C X h U A) where
    known : Offered Σ r.signature W r.blocks first r.free C r.variables x X at h U A
    known = offered Σ r.signature W r.blocks first r.free C r.variables x X at h U A offer

    type_there : IsType Σe G0 A
    type_there = growth_keeps_types Σ₁ Σe (types_more Σ Σ' w first C θ σ r) r.extends.kinds_stay G0 A known.type

    -- it applies over the extension too
    applies : (h : Head) (U : Spine) (A : LfType) → IsNumberedOffer Σ first C X h U A → AppliesTo Σe G0 h U A
    applies h U A (offer_signature k B q t) H l y S a T s = let qe : Σe.types k ≡ Some B = types_more Σ Σ' w first C θ σ r k B (entries_kept Σ first (blocks_of C.blocks) k B q) in (B, qe, subst (λ Z. SpineType Σe H S Z (atom a T)) (closed_type_renamed Σe l B (ok.types_ok k B qe)) s)
    applies h U A (offer_taken j B l g t) H f y S a T s = (rename_type f B, y j B (subst (λ Z. TypeAt (onto (taken Z) (items_context I)) j B) (sym (no_shift_type X)) (subst (λ L. TypeAt L j B) (binders_over [] X (items_context I)) (subst (λ L. TypeAt (binders L X) j B) (sym (free_context_is C.variables)) g))), s)
    applies h U A (offer_entry c U0 B q e t) H l y S a T s =
        let k : OwnHead Σ r.signature W r.blocks first r.free C r.variables c U0 = own_head Σ r.signature W r.blocks first r.free C r.variables c U0 q in
        let Q : LfType = pi_over k.some k.inner in
        let b : Q ≡ B = some_same (sym k.type ∙ e) in
        let left : LfType = left_type U0 B in
        let is : SpineType Σ₁ V U0 Q left = subst (SpineType Σ₁ V U0 Q) (sym (ap (left_type U0) (sym b) ∙ left_is Σ₁ V U0 Q (substitute_type reduce k.values k.inner) k.spine_typed)) k.spine_typed in
        let qe : Σe.types c ≡ Some Q = types_more Σ Σ' w first C θ σ r c Q k.type in
        let n : ℕ = length (taken X) in
        let d : length D0 ≡ n = ap length (ap taken (no_shift_type X)) in
        let su : SpineType Σe (items_context I) U0 Q left = subst (λ L. SpineType Σe L U0 Q left) (sym (free_context_is C.variables)) (growth_keeps_spine_typing Σ₁ Σe (types_more Σ Σ' w first C θ σ r) r.extends.kinds_stay V U0 Q left is) in
        let far : IsTypedRenaming (items_context I) G0 (shift_by n) = λ i Y g. subst (λ m. TypeAt G0 (i + m) (rename_type (shift_by m) Y)) d (far_type D0 (items_context I) i Y g) in
        let closed : (f : ℕ → ℕ) → rename_type f Q ≡ Q = λ f. closed_type_renamed Σe f Q (ok.types_ok c Q qe) in
        let su1 : SpineType Σe G0 (rename_spine (shift_by n) U0) Q (rename_type (shift_by n) left) = subst (λ Z. SpineType Σe G0 (rename_spine (shift_by n) U0) Z (rename_type (shift_by n) left)) (closed (shift_by n)) (renaming_keeps_spine_typing Σe ok (items_context I) G0 (shift_by n) U0 Q left far su) in
        let su2 : SpineType Σe H (rename_spine l (rename_spine (shift_by n) U0)) Q (rename_type l (rename_type (shift_by n) left)) = subst (λ Z. SpineType Σe H (rename_spine l (rename_spine (shift_by n) U0)) Z (rename_type l (rename_type (shift_by n) left))) (closed l) (renaming_keeps_spine_typing Σe ok G0 H l (rename_spine (shift_by n) U0) Q (rename_type (shift_by n) left) y su1) in
        (Q, qe, spine_then Σe H (rename_spine l (rename_spine (shift_by n) U0)) S Q (rename_type l (rename_type (shift_by n) left)) (atom a T) su2 s)

    applied : AppliesTo Σe G0 h U A
    applied = applies h U A offer

    nothing_typed : Rattle.lf.specs.Subordination.AreTypedBlocks Σe []
    nothing_typed B m = absurd m

    module _ (K : Kind) (of_family : Σ.kinds (target X) ≡ Some K) where
      pub ready_there : IsWellFormed Σe (numbered_store below C x X h U A K)
      ready_there = applied_ready Σe ok [] nothing_typed below x X I zero h U A (items_written Σ Σ' w first C θ σ r F ρ back hw sc below s x X at fams args h0 T e) known.place type_there known.same_target applied K (r.extends.kinds_stay (target X) K of_family)

      module _ (φ : ℕ → Image) (m : MakesWritten Σ Σ' w first C θ σ r F ρ back hw sc below s x X at fams args h0 T e h U A φ) where
        abbrev PS : List Item
        PS = split_items below X (free_variables C.variables) zero A

        items : AreTypedItems Σe [] PS
        items = applied_items Σe ok [] nothing_typed below x X I zero h U A (items_written Σ Σ' w first C θ σ r F ρ back hw sc below s x X at fams args h0 T e) known.place type_there known.same_target applied

        pub split_context : IsContext Σe (items_context (split_items below X (free_variables C.variables) zero A))
        split_context = applied_context Σe ok [] nothing_typed below x X I zero h U A (items_written Σ Σ' w first C θ σ r F ρ back hw sc below s x X at fams args h0 T e) known.place type_there known.same_target applied

        pub typed : IsTypedSubstitution Σe (items_context PS) F φ
        typed = ground_typed Σe ok [] nothing_typed (v Σ Σ' w first C θ σ r F ρ back hw sc below s x X at fams args h0 T e) PS φ items m.is_ground

        none : HasNoBlockVariable PS
        none = heads_without (head_masks below D0 (arguments_count A) A) (arguments_count A) D0 A I (free_without C.variables)

        pub terms : (i : ℕ) (B : LfType) → TypeAt (items_context (split_items below X (free_variables C.variables) zero A)) i B → (N : Term) × (φ i ≡ put (skeleton B) N)
        terms i B k = free_value (v Σ Σ' w first C θ σ r F ρ back hw sc below s x X at fams args h0 T e) PS φ m.is_ground i B k (all_free PS none i B k)

        place : TypeAt (items_context PS) (x + (zero + arguments_count A)) (rename_type (shift_by (zero + arguments_count A)) X)
        place = applied_place Σe ok [] nothing_typed below x X I zero h U A (items_written Σ Σ' w first C θ σ r F ρ back hw sc below s x X at fams args h0 T e) known.place type_there known.same_target applied

        skeletons : skeleton (term_type below X 0 A) ≡ skeleton X
        skeletons = sym (skeleton_substituted reduce φ (term_type below X 0 A)) ∙ sym (ap skeleton m.same_type) ∙ skeleton_substituted reduce φ (rename_type (shift_by (0 + arguments_count A)) X) ∙ skeleton_renamed (shift_by (0 + arguments_count A)) X

        term : TermSkeleton (constant_skeletons Σe) (context_skeletons (items_context PS)) (applied_term below D0 h U A) (skeleton X)
        term = subst (TermSkeleton (constant_skeletons Σe) (context_skeletons (items_context PS)) (applied_term below D0 h U A)) skeletons (typed_has_skeleton Σe (items_context PS) (applied_term below D0 h U A) (term_type below X 0 A) (term_typed Σe ok [] nothing_typed below x X I zero h U A (items_written Σ Σ' w first C θ σ r F ρ back hw sc below s x X at fams args h0 T e) known.place type_there known.same_target applied))

        pub written_solution : Solution Σe [] (numbered_store below C x X h U A K) F (context_filling (items_context (split_items below X (free_variables C.variables) zero A)) φ)
        written_solution = applied_solution Σe ok below x X I h U A K F split_context hw.context φ typed terms place term (term_is_type Σe ok [] nothing_typed below x X I zero h U A (items_written Σ Σ' w first C θ σ r F ρ back hw sc below s x X at fams args h0 T e) known.place type_there known.same_target applied K (r.extends.kinds_stay (target X) K of_family)) known.same_target m.same m.same_type

        -- What steps refute has no such instance.
        pub none_refuted : CanRefute (with_entries Σ first (blocks_of C.blocks)) (numbered_store below C x X h U A K) → ⊥
        none_refuted f = run_refuted Σe ok ready_there (run_in_extension nothing Σ₁ Σe (entries_extend Σ Σ' W S G w first C θ σ r) (numbered_store below C x X h U A K) f.reached f.run) f.refuted F (context_filling (items_context PS) φ) written_solution

        unfoldable pub solved_there : (after0 : Store) → Solved (with_entries Σ first (blocks_of C.blocks)) (numbered_store below C x X h U A K) after0 → Solved (with_entries Σ' first (blocks_of C.blocks)) (numbered_store below C x X h U A K) after0
        solved_there after0 d = solved_extended nothing Σ₁ Σe (entries_extend Σ Σ' W S G w first C θ σ r) (numbered_store below C x X h U A K) after0 d ready_there
