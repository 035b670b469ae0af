-- A head that a ground instance gives a variable is offered: a constant, a variable that is taken, or the constant of an entry on its own terms.
use Rattle.std.proofs.Common.{◌≡◌, ℕ, zero, List, [], ◌+◌, length, Option, Some, None, refl, sym, ap, ◌∙◌, subst}
use Rattle.std.specs.Prelude.{Bool, ◌<◌}
use Rattle.lf.specs.Syntax.{Head, constant, variable, Spine, root, LfType, atom, skeleton, rename_spine, rename_type, nil}
use Rattle.lf.specs.Substitution.{Image, keep, put, rename_image, apply_image, substitute, substitute_spine, substitute_type, reduce, after}
use Rattle.lf.specs.AtOnce.{shift_by, lift_renaming_by}
use Rattle.lf.specs.Eta.{append, lambdas}
use Rattle.lf.specs.SkeletonTyping.{SkeletonAt, SpineSkeleton}
use Rattle.lf.specs.Skeletons.{constant_skeletons, context_skeletons}
use Rattle.lf.specs.Typing.{Signature, TypeAt, HeadHasType, SpineType, IsSignature, IsTypedRenaming}
use Rattle.lf.specs.Variables.{target, target_arguments, onto, binders}
use Rattle.lf.specs.Subordination.{Block, SelfContained}
use Rattle.lf.specs.Worlds.{World, lift_over, instance}
use Rattle.lf.proofs.Closed.{closed_type_substituted}
use Rattle.lf.proofs.Decidability.{variable_type_unique}
use Rattle.lf.proofs.Eta.{eta_both, rename_eta_expand}
use Rattle.lf.proofs.Substitution.{constant_type, TypedSubstitution, skeleton_context_of, substitution_keeps_spine_typing}
use Rattle.lf.proofs.TypeLaws.{skeleton_renamed, skeleton_substituted}
use Rattle.lf_checks.specs.Below.{IsSubordination}
use Rattle.lf_checks.specs.ModeForms.{argument_count}
use Rattle.lf_unification.specs.Offering.{pi_over, local_arguments}
use Rattle.lf_cases.specs.Case.{items_context, behind_entries}
use Rattle.lf_cases.specs.Cover.{before}
use Rattle.lf_cases.specs.OutputGoal.{free_variables}
use Rattle.lf_cases.specs.Reached.{arguments_count, taken}
use Rattle.lf_cases.proofs.OutputItems.{lift_over_far, length_instance}
use Rattle.lf_totality.proofs.RaisedOutputs.{binders_over}
use Rattle.lf.proofs.Growth.{growth_keeps_spine_typing}
use Rattle.lf.proofs.Renaming.{substitute_renamed_spine}
use Rattle.lf.proofs.Weakening.{renaming_keeps_spine_typing}
use Rattle.lf_coverage.specs.Heads.{ArgumentsAreBelow}
use Rattle.lf_coverage.proofs.Forms.{local_has_type, lift_over_near, renaming_near, local_type, far_type, far_substituted, renaming_far}
use Rattle.lf_coverage.proofs.Offered.{length_kept as count_put}
use Rattle.lf_coverage.proofs.Parts.{none_some, some_same}
use Rattle.lf_coverage.proofs.RootValues.{near_skeleton, same_at, pair_second}
use Rattle.lf_numbered.specs.EntryConstants.{EntryConstant, entry_constant, entry_images, entry_type, with_entries}
use Rattle.lf_numbered.specs.NumberedBeside.{TakesIn}
use Rattle.lf_numbered.specs.NumberedCase.{NumberedCase, some_spine, type_in}
use Rattle.lf_numbered.specs.NumberedHeads.{IsNumberedHead, of_signature, of_taken, of_entry}
use Rattle.lf_numbered.specs.OwnStores.{left_type, offer_signature, offer_taken, offer_entry}
use Rattle.lf_numbered.specs.OwnTerms.{blocks_of, own_terms, put_in_blocks}
use Rattle.lf_numbered.specs.Reading.{read_entry, variable_past}
use Rattle.lf_numbered.specs.Writing.{IsWriting}
use Rattle.lf_numbered.specs.WritingLaws.{IsInstanceWithRoom}
use Rattle.lf_numbered.proofs.EntryPlaces.{entry_type_at}
use Rattle.lf_numbered.proofs.EntrySignature.{else_second, entries_kept}
use Rattle.lf_numbered.proofs.EntryValues.{count_some}
use Rattle.lf_numbered.proofs.NumberedSplitsHeads.{WrittenOffer, offer_of, taken_zero, values, cv}
use Rattle.lf_numbered.proofs.OwnStoresEntry.{OwnHead, left_is, own_head}
use Rattle.lf_numbered.proofs.OwnTerms.{entry_from, put_in_own, substitute_own, substitute_append}
use Rattle.lf_numbered.proofs.ReadSkeletons.{behind_pis, behind_arguments}
use Rattle.lf_numbered.proofs.WritingHead.{type_skeleton_is, locals_are, locals_length, root_typed, target_same, put_low, put_skeleton}
use Rattle.lf_numbered.proofs.WritingInstance.{written_signature, types_more}
use Rattle.lf_numbered.proofs.WritingLow.{below_same, LowBy, target_is}
use Rattle.lf_numbered.proofs.WritingOwn.{entry_instance, entry_own}
use mathlib.Core.Path.{fun_ext}

module _ (Σ Σ' : Signature) {W : List Block} {S : ℕ → Bool} {G : List LfType} (w : World Σ' W S G) (first : ℕ) (C : NumberedCase) (θ : ℕ → ℕ → Image) (σ : ℕ → Image) (r : IsInstanceWithRoom Σ w first C θ σ) (F : List LfType) (ρ : ℕ → Image) (back : ℕ → ℕ) (hw : IsWriting Σ' first (blocks_of C.blocks) θ G F ρ back) (sc : SelfContained Σ W S) (below : ℕ → ℕ → Bool) (s : IsSubordination Σ W below) (x : ℕ) (X : LfType) (at : TypeAt C.variables x X) (fams : TakesIn S X) (args : ArgumentsAreBelow below X) (h0 : Head) (T : Spine) (e : σ x ≡ put (skeleton X) (lambdas (length (taken X)) (root h0 T))) where
  abbrev Σ₁ : Signature
  Σ₁ = with_entries Σ first (blocks_of C.blocks)

  abbrev Σe : Signature
  Σe = with_entries Σ' first (blocks_of C.blocks)

  abbrev ok : IsSignature Σe
  ok = written_signature Σ Σ' w first C θ σ r

  abbrev τ : ℕ → Image
  τ = after ρ σ

  abbrev EF : List LfType
  EF = instance (taken X) (after ρ σ)

  abbrev D0 : List LfType
  D0 = taken (rename_type (shift_by 0) X)

  abbrev V : List LfType
  V = C.variables

  abbrev Y0 : LfType
  Y0 = type_in first C θ σ X

  abbrev written_arguments : Spine
  written_arguments = substitute_spine reduce (lift_over (taken X) ρ) T

  -- a constant of the signature
  by_constant : (k : ℕ) (B : LfType) → h0 ≡ constant k → Σ.types k ≡ Some B → target B ≡ target X → WrittenOffer Σ Σ' w first C θ σ r F ρ back hw sc below s x X at fams args h0 T e
  by_constant k B p q t =
      let (Z, hz, st) = root_typed Σ Σ' w first C θ σ r F ρ back hw sc below s x X at fams args h0 T e in
      let z : Z ≡ B = some_same (sym (subst (λ h. HeadHasType Σ' (onto (binders [] Y0) G) h Z) p hz) ∙ r.extends.types_stay k B q) in
      let q' : Σe.types k ≡ Some B = types_more Σ Σ' w first C θ σ r k B (entries_kept Σ first (blocks_of C.blocks) k B q) in
      offer_of Σ Σ' w first C θ σ r F ρ back hw sc below s x X at fams args h0 T e (constant k) nil B (offer_signature k B q t) (constant k) nil (ap (λ h. substitute reduce (lift_over (taken X) ρ) (root h T)) p) B q' (sym (closed_type_substituted Σe reduce (lift_over D0 τ) B (constant_type Σe ok [] k B q'))) (λ φ z R. refl)
      (λ b. subst (λ Y. LowBy below (context_skeletons (taken X)) (skeleton Y) written_arguments) z (put_low Σ Σ' w first C θ σ r F ρ back hw sc below s x X at fams args h0 T e Z hz st (subst (ArgumentsAreBelow below) (sym z) b)))

  -- a variable that is taken
  by_taken : (j : ℕ) → h0 ≡ variable j → j < length (taken X) → WrittenOffer Σ Σ' w first C θ σ r F ρ back hw sc below s x X at fams args h0 T e
  by_taken j p l =
      let (Z, hz, st) = root_typed Σ Σ' w first C θ σ r F ρ back hw sc below s x X at fams args h0 T e in
      let O : List LfType = items_context (free_variables C.variables) in
      let (A, k0) = local_has_type (taken X) V j l in
      let k : TypeAt (binders V X) j A = subst (λ D. TypeAt D j A) (sym (binders_over [] X V)) k0 in
      let zs : SkeletonAt (context_skeletons (taken X)) j (skeleton Z) = subst (λ Δ. SkeletonAt Δ j (skeleton Z)) (locals_are Σ Σ' w first C θ σ r F ρ back hw sc below s x X at fams args h0 T e) (near_skeleton (binders [] Y0) G j Z (subst (λ n. j < n) (sym (locals_length Σ Σ' w first C θ σ r F ρ back hw sc below s x X at fams args h0 T e)) l) (subst (λ h. HeadHasType Σ' (onto (binders [] Y0) G) h Z) p hz)) in
      let z : skeleton Z ≡ skeleton A = same_at (context_skeletons (taken X)) j (skeleton Z) (skeleton A) zs (near_skeleton (taken X) V j A l k0) in
      let t : target A ≡ target X = target_is A ∙ ap Rattle.lf_numbered.proofs.WritingLow.skeleton_target (sym z) ∙ sym (target_is Z) ∙ target_same Σ Σ' w first C θ σ r F ρ back hw sc below s x X at fams args h0 T e Z hz st ∙ target_is Y0 ∙ ap Rattle.lf_numbered.proofs.WritingLow.skeleton_target (type_skeleton_is Σ Σ' w first C θ σ r F ρ back hw sc below s x X at fams args h0 T e) ∙ sym (target_is X) in
      let l2 : j < length D0 = subst (λ L. j < length L) (sym (taken_zero Σ Σ' w first C θ σ r F ρ back hw sc below s x X at fams args h0 T e)) l in
      let there : TypeAt (onto EF F) j (substitute_type reduce (lift_over (taken X) τ) A) = local_type (taken X) V F τ j A l k0 in
      let here' : TypeAt (onto EF F) j (substitute_type reduce (lift_over D0 τ) A) = subst (λ L. TypeAt (onto EF F) j (substitute_type reduce (lift_over L τ) A)) (sym (taken_zero Σ Σ' w first C θ σ r F ρ back hw sc below s x X at fams args h0 T e)) there in
      offer_of Σ Σ' w first C θ σ r F ρ back hw sc below s x X at fams args h0 T e (variable j) nil A (offer_taken j A l k t) (variable j) nil (ap (λ h. substitute reduce (lift_over (taken X) ρ) (root h T)) p ∙ ap (λ y. apply_image reduce y written_arguments) (lift_over_near (taken X) ρ j l)) (substitute_type reduce (lift_over D0 τ) A) here' refl
      (λ φ q R. ap (λ i. substitute reduce (lift_over D0 φ) (root (variable i) R)) (renaming_near (length D0) (shift_by (arguments_count A)) j l2) ∙ ap (λ y. apply_image reduce y (substitute_spine reduce (lift_over D0 φ) R)) (lift_over_near D0 φ j l2))
      (λ b. subst (λ a. LowBy below (context_skeletons (taken X)) a written_arguments) z (put_low Σ Σ' w first C θ σ r F ρ back hw sc below s x X at fams args h0 T e Z hz st (below_same below A Z (sym z) b)))

  -- the constant of an entry
  module _ (c m u : ℕ) (B : LfType) (p : h0 ≡ variable u) (q : (with_entries Σ first (blocks_of C.blocks)).types c ≡ Some B) (t : target B ≡ target X) where
    by_found : (ec : EntryConstant) → entry_constant zero first (blocks_of C.blocks) c ≡ Some ec → read_entry θ (length (taken X)) (Some ec) ≡ Some (m, u) → (o : WrittenOffer Σ Σ' w first C θ σ r F ρ back hw sc below s x X at fams args h0 T e) × (o.head ≡ constant c)
    by_found ec z k =
        let (i, later, en, pl) = entry_instance Σ Σ' w first C θ σ r F ρ back hw c ec z in
        let (u0, k0) = Rattle.lf_numbered.proofs.EntryPlaces.entry_is Σ' r.extends.ok w ec.block (θ ec.number) i later ec.entry ec.before en in
        let k1 : θ ec.number ec.place ≡ keep u0 = ap (θ ec.number) pl ∙ k0 in
        let uv : u ≡ u0 + length (taken X) = sym (pair_second k) ∙ ap (variable_past (length (taken X))) k1 in
        let E : List LfType = binders [] Y0 in
        let (Z, hz, st) = root_typed Σ Σ' w first C θ σ r F ρ back hw sc below s x X at fams args h0 T e in
        let P0 : LfType = substitute_type reduce (entry_images ec.from (local_arguments ec.block.some) ec.before keep) ec.entry in
        let a : B ≡ pi_over ec.block.some P0 = some_same (sym q ∙ else_second (Σ.types c) (entry_type (entry_constant zero first (blocks_of C.blocks) c)) (entry_type (Some ec)) (r.free.types_free c (entry_from zero first (blocks_of C.blocks) c ec z)) (ap entry_type z)) in
        let far : TypeAt (onto E G) (u0 + length E) (rename_type (shift_by (length E)) (substitute_type reduce (before later (θ ec.number)) ec.entry)) = far_type E G u0 (substitute_type reduce (before later (θ ec.number)) ec.entry) (entry_type_at Σ' r.extends.ok w ec.block (θ ec.number) i later ec.entry ec.before en u0 k0) in
        let hz' : TypeAt (onto E G) (u0 + length E) Z = subst (λ n. TypeAt (onto E G) n Z) (uv ∙ ap (λ n. u0 + n) (sym (locals_length Σ Σ' w first C θ σ r F ρ back hw sc below s x X at fams args h0 T e))) (subst (λ h. HeadHasType Σ' (onto E G) h Z) p hz) in
        let zs : skeleton Z ≡ skeleton ec.entry = ap skeleton (variable_type_unique (onto E G) (u0 + length E) Z (rename_type (shift_by (length E)) (substitute_type reduce (before later (θ ec.number)) ec.entry)) hz' far) ∙ skeleton_renamed (shift_by (length E)) (substitute_type reduce (before later (θ ec.number)) ec.entry) ∙ skeleton_substituted reduce (before later (θ ec.number)) ec.entry in
        let ps : skeleton P0 ≡ skeleton ec.entry = skeleton_substituted reduce (entry_images ec.from (local_arguments ec.block.some) ec.before keep) ec.entry in
        let T' : Spine = written_arguments in
        let Uw : Spine = substitute_spine reduce ρ (some_spine ec.block.some (behind_entries ec.block.entries (θ ec.number))) in
        let n : ℕ = length (taken X) in
        let sk : SpineSkeleton (constant_skeletons Σe) (context_skeletons (onto E F)) T' (skeleton ec.entry) (skeleton (atom (target Y0) (target_arguments Y0))) = subst (λ s. SpineSkeleton (constant_skeletons Σe) (context_skeletons (onto E F)) T' s (skeleton (atom (target Y0) (target_arguments Y0)))) zs (put_skeleton Σ Σ' w first C θ σ r F ρ back hw sc below s x X at fams args h0 T e Z hz st) in
        let wr : substitute reduce (lift_over (taken X) ρ) (root h0 T) ≡ root (constant c) (append (rename_spine (shift_by n) Uw) T') =
        ap (λ h. substitute reduce (lift_over (taken X) ρ) (root h T)) (p ∙ ap variable uv)
        ∙ ap (λ y. apply_image reduce y T') (lift_over_far (taken X) ρ u0 ∙ ap (rename_image (shift_by n)) (hw.entries c ec z u0 k1) ∙ ap (put (skeleton ec.entry)) (rename_eta_expand (shift_by n) (skeleton ec.entry) (constant c) Uw))
        ∙ (eta_both (constant_skeletons Σe) (skeleton ec.entry)).0 (context_skeletons (onto E F)) (constant c) (rename_spine (shift_by n) Uw) T' (target Y0) sk in
        own_terms_of ec.block.some P0 (sym a) (ap (λ s. s) (zs ∙ sym ps)) Uw (count_put ρ (some_spine ec.block.some (behind_entries ec.block.entries (θ ec.number))) ∙ count_some ec.block.some (behind_entries ec.block.entries (θ ec.number))) (entry_own Σ Σ' w first C θ σ r F ρ back hw c ec z) wr (own_terms first C.blocks c) refl
      where
        own_terms_of : (O : List LfType) (P0 : LfType) → pi_over O P0 ≡ B → skeleton (root_typed Σ Σ' w first C θ σ r F ρ back hw sc below s x X at fams args h0 T e).0 ≡ skeleton P0 → (Uw : Spine) → argument_count Uw ≡ length O → own_terms first (put_in_blocks (after ρ σ) C.blocks) c ≡ Some Uw → substitute reduce (lift_over (taken X) ρ) (root h0 T) ≡ root (constant c) (append (rename_spine (shift_by (length (taken X))) Uw) (substitute_spine reduce (lift_over (taken X) ρ) T)) → (y : Option Spine) → own_terms first C.blocks c ≡ y → (o : WrittenOffer Σ Σ' w first C θ σ r F ρ back hw sc below s x X at fams args h0 T e) × (o.head ≡ constant c)
        own_terms_of O P0 a zs Uw count own wr None y = absurd (none_some (sym (ap (substitute_own (after ρ σ)) y) ∙ sym (put_in_own first C.blocks (after ρ σ) c) ∙ own))
        own_terms_of O P0 a zs Uw count own wr (Some U) y =
            let (Z, hz, st) = root_typed Σ Σ' w first C θ σ r F ρ back hw sc below s x X at fams args h0 T e in
            let n : ℕ = length (taken X) in
            let us : substitute_spine reduce τ U ≡ Uw = some_same (sym (ap (substitute_own τ) y) ∙ sym (put_in_own first C.blocks τ c) ∙ own) in
            let k : OwnHead Σ r.signature W r.blocks first r.free C r.variables c U = own_head Σ r.signature W r.blocks first r.free C r.variables c U y in
            let Q : LfType = pi_over k.some k.inner in
            let b : Q ≡ B = some_same (sym k.type ∙ q) in
            let left : LfType = substitute_type reduce k.values k.inner in
            let is : left_type U B ≡ left = ap (left_type U) (sym b) ∙ left_is Σ₁ V U Q left k.spine_typed in
            let A : LfType = rename_type (shift_by n) (left_type U B) in
            let counts : length k.some ≡ length O = sym (count_some k.some k.values) ∙ ap argument_count (sym k.terms) ∙ sym (count_put τ U) ∙ ap argument_count us ∙ count in
            let inner : skeleton k.inner ≡ skeleton P0 = sym (behind_pis k.some k.inner) ∙ ap (λ l. behind_arguments l (skeleton Q)) counts ∙ ap (λ Y. behind_arguments (length O) (skeleton Y)) (b ∙ sym a) ∙ behind_pis O P0 in
            let sA : skeleton A ≡ skeleton Z = skeleton_renamed (shift_by n) (left_type U B) ∙ ap skeleton is ∙ skeleton_substituted reduce k.values k.inner ∙ inner ∙ sym zs in
            let U1 : Spine = rename_spine (shift_by n) Uw in
            let qe : Σe.types c ≡ Some Q = types_more Σ Σ' w first C θ σ r c Q k.type in
            let su0 : SpineType Σe V U Q left = growth_keeps_spine_typing Σ₁ Σe (types_more Σ Σ' w first C θ σ r) r.extends.kinds_stay V U Q left k.spine_typed in
            let closed : (f : ℕ → Image) → substitute_type reduce f Q ≡ Q = λ f. closed_type_substituted Σe reduce f Q (constant_type Σe ok [] c Q qe) in
            let ts : TypedSubstitution Σe ok V F τ = record { typed = values Σ Σ' w first C θ σ r F ρ back hw sc below s x X at fams args h0 T e; source_skeletons = skeleton_context_of Σe ok V (cv Σ Σ' w first C θ σ r F ρ back hw sc below s x X at fams args h0 T e); target_skeletons = skeleton_context_of Σe ok F hw.context } in
            let su1 : SpineType Σe F (substitute_spine reduce τ U) (substitute_type reduce τ Q) (substitute_type reduce τ left) = substitution_keeps_spine_typing Σe ok V F τ U Q left ts (Rattle.lf.proofs.ToSkeletons.type_by_skeletons Σe V Q (constant_type Σe ok V c Q qe)) su0 in
            let far : IsTypedRenaming F (onto EF F) (shift_by n) = λ i Y g. subst (λ l. TypeAt (onto EF F) (i + l) (rename_type (shift_by l) Y)) (length_instance (taken X) τ) (far_type EF F i Y g) in
            let su2 : SpineType Σe (onto EF F) (rename_spine (shift_by n) (substitute_spine reduce τ U)) (rename_type (shift_by n) (substitute_type reduce τ Q)) (rename_type (shift_by n) (substitute_type reduce τ left)) = renaming_keeps_spine_typing Σe ok F (onto EF F) (shift_by n) (substitute_spine reduce τ U) (substitute_type reduce τ Q) (substitute_type reduce τ left) far su1 in
            let putA : substitute_type reduce (lift_over D0 τ) A ≡ rename_type (shift_by n) (substitute_type reduce τ left) = ap (λ D. substitute_type reduce (lift_over D τ) A) (taken_zero Σ Σ' w first C θ σ r F ρ back hw sc below s x X at fams args h0 T e) ∙ far_substituted (taken X) τ (left_type U B) ∙ ap (λ Y. rename_type (shift_by n) (substitute_type reduce τ Y)) is in
            let su3 : SpineType Σe (onto EF F) U1 Q (substitute_type reduce (lift_over D0 τ) A) = subst (λ Y. SpineType Σe (onto EF F) U1 Q Y) (sym putA) (subst (λ Y. SpineType Σe (onto EF F) U1 Y (rename_type (shift_by n) (substitute_type reduce τ left))) (ap (rename_type (shift_by n)) (closed τ) ∙ Rattle.lf.proofs.Closed.closed_type_renamed Σe (shift_by n) Q (constant_type Σe ok [] c Q qe)) (subst (λ Z. SpineType Σe (onto EF F) (rename_spine (shift_by n) Z) (rename_type (shift_by n) (substitute_type reduce τ Q)) (rename_type (shift_by n) (substitute_type reduce τ left))) us su2)) in (
              offer_of Σ Σ' w first C θ σ r F ρ back hw sc below s x X at fams args h0 T e (constant c) (rename_spine (shift_by n) U) A (offer_entry c U B y q t) (constant c) U1 wr Q qe su3
                  (λ φ z R. ap (root (constant c)) (substitute_append (lift_over D0 φ) (rename_spine (lift_renaming_by (length D0) (shift_by (arguments_count A))) (rename_spine (shift_by n) U)) R ∙ ap (λ W. append W (substitute_spine reduce (lift_over D0 φ) R)) (moved φ (arguments_count A) z U ∙ ap (rename_spine (shift_by n)) us)))
                  (λ b'. subst (λ a. LowBy below (context_skeletons (taken X)) a written_arguments) (sym sA) (put_low Σ Σ' w first C θ σ r F ρ back hw sc below s x X at fams args h0 T e Z hz st (below_same below A Z sA b'))),
              refl,
            )
          where
            moved : (φ : ℕ → Image) (a : ℕ) → ((k : ℕ) → φ (k + a) ≡ after ρ σ k) → (U : Spine) → substitute_spine reduce (lift_over D0 φ) (rename_spine (lift_renaming_by (length D0) (shift_by a)) (rename_spine (shift_by (length (taken X))) U)) ≡ rename_spine (shift_by (length (taken X))) (substitute_spine reduce (after ρ σ) U)
            moved φ a z U =
                let n : ℕ = length (taken X) in
                let d : length D0 ≡ n = ap length (taken_zero Σ Σ' w first C θ σ r F ρ back hw sc below s x X at fams args h0 T e) in
                substitute_renamed_spine reduce (lift_over D0 φ) (lift_renaming_by (length D0) (shift_by a)) (rename_spine (shift_by n) U)
                ∙ substitute_renamed_spine reduce (λ i. lift_over D0 φ (lift_renaming_by (length D0) (shift_by a) i)) (shift_by n) U
                ∙ ap (λ f. substitute_spine reduce f U) (fun_ext (λ i. ap (λ l. lift_over D0 φ (lift_renaming_by (length D0) (shift_by a) (i + l))) (sym d) ∙ ap (lift_over D0 φ) (renaming_far (length D0) (shift_by a) i) ∙ lift_over_far D0 φ (i + a) ∙ ap (rename_image (shift_by (length D0))) (z i) ∙ ap (λ l. rename_image (shift_by l) (after ρ σ i)) d))
                ∙ sym (Rattle.lf.proofs.Renaming.rename_substituted_spine reduce Rattle.lf.proofs.Renaming.reduction_is_natural (shift_by n) (after ρ σ) U)

    pub by_entry : (y : Option EntryConstant) → entry_constant zero first (blocks_of C.blocks) c ≡ y → read_entry θ (length (taken X)) y ≡ Some (m, u) → (o : WrittenOffer Σ Σ' w first C θ σ r F ρ back hw sc below s x X at fams args h0 T e) × (o.head ≡ constant c)
    by_entry None z k = absurd (none_some k)
    by_entry (Some ec) z k = by_found ec z k

  -- The lemma
  pub is_offered : IsNumberedHead Σ first C θ (length (taken X)) (target X) h0 → WrittenOffer Σ Σ' w first C θ σ r F ρ back hw sc below s x X at fams args h0 T e
  is_offered k = by h0 refl k
    where
      by : (h : Head) → h0 ≡ h → IsNumberedHead Σ first C θ (length (taken X)) (target X) h → WrittenOffer Σ Σ' w first C θ σ r F ρ back hw sc below s x X at fams args h0 T e
      by h p (of_signature k B q t) = by_constant k B p q t
      by h p (of_taken j l) = by_taken j p l
      by h p (of_entry c m u B q t z) = (by_entry c m u B p q t (entry_constant zero first (blocks_of C.blocks) c) refl z).0
