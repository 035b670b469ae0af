-- The head that a ground instance gives a variable is one that is offered, and written it is this head on its terms and new variables.
use Rattle.std.proofs.Common.{◌≡◌, ℕ, List, [], ◌+◌, length, refl, sym, ap, ◌∙◌, subst}
use Rattle.std.specs.Prelude.{Bool}
use Rattle.lf.specs.Syntax.{Head, Term, Spine, root, LfType, atom, skeleton, rename_spine, rename_type, rename_head, app, nil, pi}
use Rattle.lf.specs.Substitution.{Image, put, substitute, substitute_spine, substitute_image, substitute_type, reduce, after}
use Rattle.lf.specs.AtOnce.{shift_by, lift_renaming_by}
use Rattle.lf.specs.Eta.{append, lambdas}
use Rattle.lf.specs.Skeletons.{context_skeletons}
use Rattle.lf.specs.Typing.{Signature, TypeAt, HeadHasType, ImageHasType, HasType, SpineType, IsType, IsContext, IsSignature, IsTypedSubstitution}
use Rattle.lf.specs.Variables.{target, target_arguments, onto, binders}
use Rattle.lf.specs.Subordination.{Block, SelfContained}
use Rattle.lf.specs.Worlds.{World, lift_over, instance}
use Rattle.lf.proofs.Growth.{growth_keeps_types}
use Rattle.lf.proofs.Target.{target_of}
use Rattle.lf.proofs.TypeLaws.{skeleton_substituted}
use Rattle.lf_checks.specs.Below.{IsSubordination}
use Rattle.lf_cases.specs.Case.{items_context}
use Rattle.lf_cases.specs.OutputGoal.{free_variables}
use Rattle.lf_cases.specs.Reached.{arguments_count, taken}
use Rattle.lf_cases.proofs.Local.{binders_substituted}
use Rattle.lf_totality.proofs.RaisedOutputs.{binders_over}
use Rattle.lf.proofs.Substitution.{skeleton_context_of, substitution_keeps_types}
use Rattle.lf_coverage.specs.Heads.{ArgumentsAreBelow}
use Rattle.lf_coverage.proofs.Forms.{lambdas_substituted, no_shift_type}
use Rattle.lf_coverage.proofs.HeadItems.{count_substituted}
use Rattle.lf_coverage.proofs.PatternDistinct.{length_context as skeletons_length}
use Rattle.lf_coverage.proofs.SolvedCase.{free_context_is}
use Rattle.lf_coverage.proofs.SomeHead.{head_same}
use Rattle.lf_coverage.proofs.RootValues.{root_of}
use Rattle.lf_numbered.specs.EntryConstants.{with_entries}
use Rattle.lf_numbered.specs.NumberedBeside.{TakesIn}
use Rattle.lf_numbered.specs.NumberedCase.{NumberedCase}
use Rattle.lf_numbered.specs.OwnStores.{IsNumberedOffer}
use Rattle.lf_numbered.specs.OwnTerms.{blocks_of}
use Rattle.lf_numbered.specs.Writing.{IsWriting}
use Rattle.lf_numbered.specs.WritingLaws.{IsInstanceWithRoom}
use Rattle.lf_numbered.proofs.EntrySignature.{grown_contexts}
use Rattle.lf_numbered.proofs.NumberedSplitsMade.{MakesApplied, made_applied}
use Rattle.lf_numbered.proofs.OwnStoresCase.{local_typed}
use Rattle.lf_numbered.proofs.OwnStoresOffers.{Offered, offered}
use Rattle.lf_numbered.proofs.WritingHead.{written_locals, here, items_written, v, ground}
use Rattle.lf_numbered.proofs.WritingInstance.{written_signature, types_more}
use Rattle.lf_numbered.proofs.WritingLow.{locals_same, LowBy, places_of_low}
use Rattle.lf_numbered.proofs.WritingOwn.{values_are_typed}

-- what is left of a spine's typing behind its first arguments
spine_rest : (Σ : Signature) (G : List LfType) (U T : Spine) (A B C : LfType) → SpineType Σ G U A B → SpineType Σ G (append U T) A C → SpineType Σ G T B C
spine_rest Σ G nil T A B C e t = subst (λ Z. SpineType Σ G T Z C) e t
spine_rest Σ G (app M U) T (pi A A') B C (m, u) (n, t) = spine_rest Σ G U T (Rattle.lf.specs.Typing.instantiate_type A M A') B C u t
spine_rest Σ G (app M U) T (atom a V) B C u t = absurd u

module _ (Σ Σ' : Signature) {W : List Block} {S : ℕ → Bool} {G : List LfType} (w : World Σ' W S G) (first : ℕ) (C : NumberedCase) (θ : ℕ → ℕ → Image) (σ : ℕ → Image) (r : IsInstanceWithRoom Σ w first C θ σ) (F : List LfType) (ρ : ℕ → Image) (back : ℕ → ℕ) (hw : IsWriting Σ' first (blocks_of C.blocks) θ G F ρ back) (sc : SelfContained Σ W S) (below : ℕ → ℕ → Bool) (s : IsSubordination Σ W below) (x : ℕ) (X : LfType) (at : TypeAt C.variables x X) (fams : TakesIn S X) (args : ArgumentsAreBelow below X) (h0 : Head) (T : Spine) (e : σ x ≡ put (skeleton X) (lambdas (length (taken X)) (root h0 T))) where
  abbrev Σ₁ : Signature
  Σ₁ = with_entries Σ first (blocks_of C.blocks)

  abbrev Σe : Signature
  Σe = with_entries Σ' first (blocks_of C.blocks)

  abbrev ok : IsSignature Σe
  ok = written_signature Σ Σ' w first C θ σ r

  abbrev τ : ℕ → Image
  τ = after ρ σ

  abbrev EF : List LfType
  EF = instance (taken X) (after ρ σ)

  abbrev D0 : List LfType
  D0 = taken (rename_type (shift_by 0) X)

  abbrev V : List LfType
  V = C.variables

  pub taken_zero : taken (rename_type (shift_by 0) X) ≡ taken X
  taken_zero = ap taken (no_shift_type X)

  abbrev pub MakesWritten : Head → Spine → LfType → (ℕ → Image) → Type 0
  MakesWritten h U A φ = MakesApplied (v Σ Σ' w first C θ σ r F ρ back hw sc below s x X at fams args h0 T e) below x X (free_variables C.variables) h U A (after ρ σ) (substitute_spine reduce (lift_over (taken X) ρ) T) φ

  pub cv : IsContext Σe V
  cv = grown_contexts Σ₁ Σe (types_more Σ Σ' w first C θ σ r) r.extends.kinds_stay V r.variables.variables

  pub local_under : IsContext Σe (onto D0 V)
  local_under = subst (λ D. IsContext Σe (onto D V)) (sym taken_zero) (subst (IsContext Σe) (binders_over [] X V) (Rattle.lf_cases.proofs.Assemble.binders_typed Σe ok X V cv (Rattle.lf.proofs.Weakening.declared_is_type Σe ok V x X cv at)))

  pub values : IsTypedSubstitution Σe V F (after ρ σ)
  values = values_are_typed Σ Σ' w first C θ σ r F ρ back hw

  local_values : IsContext Σe (onto (instance D0 (after ρ σ)) F) × IsTypedSubstitution Σe (onto D0 V) (onto (instance D0 (after ρ σ)) F) (lift_over D0 (after ρ σ))
  local_values = local_typed Σe ok V F (after ρ σ) cv hw.context values D0 local_under

  same_local : instance D0 (after ρ σ) ≡ EF
  same_local = ap (λ D. instance D (after ρ σ)) taken_zero

  local : IsContext Σe (onto EF F)
  local = subst (λ L. IsContext Σe (onto L F)) same_local local_values.0

  type_put : (A : LfType) → IsType Σe (onto D0 V) A → IsType Σe (onto EF F) (substitute_type reduce (lift_over D0 (after ρ σ)) A)
  type_put A t = subst (λ L. IsType Σe (onto L F) (substitute_type reduce (lift_over D0 τ) A)) same_local (substitution_keeps_types Σe ok (onto D0 V) (onto (instance D0 τ) F) (lift_over D0 τ) A (record { typed = local_values.1; source_skeletons = skeleton_context_of Σe ok (onto D0 V) local_under; target_skeletons = skeleton_context_of Σe ok (onto (instance D0 τ) F) local_values.0 }) t)

  items_are : items_context (free_variables C.variables) ≡ C.variables
  items_are = free_context_is C.variables

  -- A head on terms that is offered, with what it is written as.
  module _ (h : Head) (U : Spine) (A : LfType) (offer : IsNumberedOffer Σ first C X h U A) (h1 : Head) (U1 : Spine) (written : substitute reduce (lift_over (taken X) ρ) (root h0 T) ≡ root h1 (append U1 (substitute_spine reduce (lift_over (taken X) ρ) T))) (Z1 : LfType) (hz : HeadHasType Σe (onto EF F) h1 Z1) (su : SpineType Σe (onto EF F) U1 Z1 (substitute_type reduce (lift_over (taken (rename_type (shift_by 0) X)) (after ρ σ)) A)) (under : (φ : ℕ → Image) → ((k : ℕ) → φ (k + arguments_count A) ≡ after ρ σ k) → (R : Spine) → substitute reduce (lift_over (taken (rename_type (shift_by 0) X)) φ) (root (rename_head (lift_renaming_by (length (taken (rename_type (shift_by 0) X))) (shift_by (arguments_count A))) h) (append (rename_spine (lift_renaming_by (length (taken (rename_type (shift_by 0) X))) (shift_by (arguments_count A))) U) R)) ≡ root h1 (append U1 (substitute_spine reduce (lift_over (taken (rename_type (shift_by 0) X)) φ) R))) (low : ArgumentsAreBelow below A → LowBy below (context_skeletons (taken X)) (skeleton A) (substitute_spine reduce (lift_over (taken X) ρ) T)) where
    abbrev T' : Spine
    T' = substitute_spine reduce (lift_over (taken X) ρ) T

    abbrev N : Term
    N = lambdas (length (taken X)) (root h1 (append U1 T'))

    known : Offered Σ r.signature W r.blocks first r.free C r.variables x X at h U A
    known = offered Σ r.signature W r.blocks first r.free C r.variables x X at h U A offer

    value_written : after ρ σ x ≡ put (skeleton X) N
    value_written = ap (substitute_image ρ) e ∙ ap (put (skeleton X)) (lambdas_substituted (taken X) ρ (root h0 T) ∙ ap (lambdas (length (taken X))) written)

    written_typed : HasType Σe F N (substitute_type reduce (after ρ σ) X)
    written_typed = (subst (λ y. ImageHasType Σe F y (substitute_type reduce (after ρ σ) X)) value_written (values x X at)).1

    written_length : length (binders [] (substitute_type reduce (after ρ σ) X)) ≡ length (taken X)
    written_length = sym (skeletons_length (binders [] (substitute_type reduce (after ρ σ) X))) ∙ ap length (locals_same (substitute_type reduce (after ρ σ) X) X [] [] (skeleton_substituted reduce (after ρ σ) X) refl) ∙ skeletons_length (taken X)

    written_root : HasType Σe (onto EF F) (root h1 (append U1 T')) (atom (target X) (target_arguments (substitute_type reduce (after ρ σ) X)))
    written_root = subst (λ t. HasType Σe (onto EF F) (root h1 (append U1 T')) (atom t (target_arguments (substitute_type reduce (after ρ σ) X)))) (target_of reduce (after ρ σ) X) (subst (λ D. HasType Σe D (root h1 (append U1 T')) (atom (target (substitute_type reduce (after ρ σ) X)) (target_arguments (substitute_type reduce (after ρ σ) X)))) (binders_substituted X (after ρ σ) F) (root_of Σe F (substitute_type reduce (after ρ σ) X) (length (taken X)) h1 (append U1 T') written_length written_typed))

    pub type_here : IsType Σe (onto D0 (items_context (free_variables C.variables))) A
    type_here = growth_keeps_types Σ₁ Σe (types_more Σ Σ' w first C θ σ r) r.extends.kinds_stay (onto D0 (items_context (free_variables C.variables))) A known.type

    pub makes : ArgumentsAreBelow below A → (φ : ℕ → Image) × MakesWritten h U A φ
    makes b =
        let Y : LfType = substitute_type reduce (lift_over D0 τ) A in
        let (Z, hz', st) = written_root in
        let z : Z ≡ Z1 = head_same Σe (onto EF F) h1 Z Z1 hz' hz in
        let st' : SpineType Σe (onto EF F) T' Y (atom (target X) (target_arguments (substitute_type reduce τ X))) = spine_rest Σe (onto EF F) U1 T' Z1 Y (atom (target X) (target_arguments (substitute_type reduce τ X))) su (subst (λ B. SpineType Σe (onto EF F) (append U1 T') B (atom (target X) (target_arguments (substitute_type reduce τ X)))) z st) in
        made_applied Σe ok below (v Σ Σ' w first C θ σ r F ρ back hw sc below s x X at fams args h0 T e) (λ B m. absurd m) (free_variables C.variables) (items_written Σ Σ' w first C θ σ r F ρ back hw sc below s x X at fams args h0 T e) τ (ground Σ Σ' w first C θ σ r F ρ back hw sc below s x X at fams args h0 T e) x X (here Σ Σ' w first C θ σ r F ρ back hw sc below s x X at fams args h0 T e) local N T' h h1 U U1 A value_written refl st' type_here (type_put A (subst (λ L. IsType Σe (onto D0 L) A) items_are type_here)) under
        (places_of_low below EF (arguments_count A) Y T' (count_substituted (lift_over D0 τ) A) (subst (λ t. LowBy below (context_skeletons EF) t T') (sym (skeleton_substituted reduce (lift_over D0 τ) A)) (subst (λ Δ. LowBy below Δ (skeleton A) T') (sym (written_locals Σ Σ' w first C θ σ r F ρ back hw sc below s x X at fams args h0 T e)) (low b))))

  -- The head that is offered.
  pub record WrittenOffer : Type 0 where
    pub head : Head
    pub terms : Spine
    pub left : LfType
    pub offer : IsNumberedOffer Σ first C X head terms left
    pub makes : ArgumentsAreBelow below left → (φ : ℕ → Image) × MakesWritten head terms left φ
    pub head1 : Head
    pub terms1 : Spine
    pub written : substitute reduce (lift_over (taken X) ρ) (root h0 T) ≡ root head1 (append terms1 (substitute_spine reduce (lift_over (taken X) ρ) T))

  abbrev pub offer_of : (h : Head) (U : Spine) (A : LfType) (offer : IsNumberedOffer Σ first C X h U A) (h1 : Head) (U1 : Spine) (written : substitute reduce (lift_over (taken X) ρ) (root h0 T) ≡ root h1 (append U1 (substitute_spine reduce (lift_over (taken X) ρ) T))) (Z1 : LfType) (hz : HeadHasType Σe (onto EF F) h1 Z1) (su : SpineType Σe (onto EF F) U1 Z1 (substitute_type reduce (lift_over (taken (rename_type (shift_by 0) X)) (after ρ σ)) A)) (under : (φ : ℕ → Image) → ((k : ℕ) → φ (k + arguments_count A) ≡ after ρ σ k) → (R : Spine) → substitute reduce (lift_over (taken (rename_type (shift_by 0) X)) φ) (root (rename_head (lift_renaming_by (length (taken (rename_type (shift_by 0) X))) (shift_by (arguments_count A))) h) (append (rename_spine (lift_renaming_by (length (taken (rename_type (shift_by 0) X))) (shift_by (arguments_count A))) U) R)) ≡ root h1 (append U1 (substitute_spine reduce (lift_over (taken (rename_type (shift_by 0) X)) φ) R))) (low : ArgumentsAreBelow below A → LowBy below (context_skeletons (taken X)) (skeleton A) (substitute_spine reduce (lift_over (taken X) ρ) T)) → WrittenOffer
  offer_of h U A offer h1 U1 wr Z1 hz su under low = record { head = h; terms = U; left = A; offer = offer; makes = makes h U A offer h1 U1 wr Z1 hz su under low; head1 = h1; terms1 = U1; written = wr }
