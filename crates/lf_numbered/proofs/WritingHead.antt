-- Where the value of a variable has a head in a ground instance: the head's arguments use local variables of lower families alone, and do so when they are
-- written; and the written values are a ground instance over the written context.
use Rattle.std.proofs.Common.{◌≡◌, ℕ, zero, suc, List, [], ◌∷◌, ◌+◌, length, Option, refl, sym, ap, ◌∙◌, subst, arith}
use Rattle.std.specs.Prelude.{Bool, true}
use Rattle.lf.specs.Syntax.{Head, constant, variable, metavariable, Term, Spine, root, LfType, atom, skeleton}
use Rattle.lf.specs.Substitution.{Image, put, substitute, substitute_spine, substitute_image, substitute_type, reduce, after}
use Rattle.lf.specs.Eta.{lambdas}
use Rattle.lf.specs.SkeletonTyping.{SpineSkeleton}
use Rattle.lf.specs.Skeletons.{constant_skeletons, context_skeletons}
use Rattle.lf.specs.Typing.{Signature, TypeAt, HeadHasType, ImageHasType, HasType, SpineType}
use Rattle.lf.specs.Variables.{target, target_arguments, onto, binders, FamiliesIn, nothing}
use Rattle.lf.specs.Subordination.{Block, SelfContained}
use Rattle.lf.specs.Worlds.{World, lift_over, instance}
use Rattle.lf.proofs.Conservativity.{spine_target}
use Rattle.lf.proofs.SkeletonTyping.{substitution_keeps_spine_skeletons}
use Rattle.lf.proofs.ToSkeletons.{typed_spine_has_skeleton}
use Rattle.lf.proofs.TypeLaws.{skeleton_renamed, skeleton_substituted}
use Rattle.lf_checks.specs.Below.{IsSubordination}
use Rattle.lf_cases.specs.Case.{items_context, IsGroundInstance}
use Rattle.lf_cases.specs.Missing.{AreTypedItems}
use Rattle.lf_cases.specs.OutputGoal.{free_variables}
use Rattle.lf_cases.specs.Reached.{arguments_count, taken}
use Rattle.lf_totality.proofs.RaisedOutputs.{binders_over}
use Rattle.lf_coverage.specs.Heads.{ArgumentsAreBelow}
use Rattle.lf_coverage.proofs.Forms.{lift_same}
use Rattle.lf_coverage.proofs.HeadRaised.{families_within, AllTypesIn, context_types, part, part_itself, part_low, spine_uses_low}
use Rattle.lf_coverage.proofs.SolvedCase.{free_context_is, free_typed}
use Rattle.lf_coverage.proofs.SomeHead.{taken_is as taken_same}
use Rattle.lf_coverage.proofs.PatternDistinct.{length_context as skeletons_length}
use Rattle.lf_coverage.proofs.MoreConstants.{spine_more}
use Rattle.lf_coverage.proofs.RootValues.{alone, ground_of, over_fits, root_of}
use Rattle.lf_numbered.specs.EntryConstants.{with_entries}
use Rattle.lf_numbered.specs.NumberedBeside.{TakesIn}
use Rattle.lf_numbered.specs.NumberedCase.{NumberedCase, type_in}
use Rattle.lf_numbered.specs.OwnTerms.{blocks_of}
use Rattle.lf_numbered.specs.Reading.{read_type, entry_reading}
use Rattle.lf_numbered.specs.Writing.{IsWriting}
use Rattle.lf_numbered.specs.WritingLaws.{IsInstanceWithRoom}
use Rattle.lf_numbered.proofs.ReadValues.{values_typed}
use Rattle.lf_numbered.proofs.Reading.{skeleton_read}
use Rattle.lf_numbered.proofs.WritingInstance.{types_more, own_types}
use Rattle.lf_numbered.proofs.WritingLow.{below_same, locals_same, LowBy, low_places_by, low_put}
use Rattle.lf_numbered.proofs.NumberedCandidatesTypes.{local_types_taken, takes_in_target, takes_same}
use Rattle.lf_numbered.proofs.WritingOwn.{values_are_typed}
use Rattle.lf_numbered.proofs.WritingRead.{writing_fits, itself}

module _ (Σ Σ' : Signature) {W : List Block} {S : ℕ → Bool} {G : List LfType} (w : World Σ' W S G) (first : ℕ) (C : NumberedCase) (θ : ℕ → ℕ → Image) (σ : ℕ → Image) (r : IsInstanceWithRoom Σ w first C θ σ) (F : List LfType) (ρ : ℕ → Image) (back : ℕ → ℕ) (hw : IsWriting Σ' first (blocks_of C.blocks) θ G F ρ back) (sc : SelfContained Σ W S) (below : ℕ → ℕ → Bool) (s : IsSubordination Σ W below) (x : ℕ) (X : LfType) (at : TypeAt C.variables x X) (fams : TakesIn S X) (args : ArgumentsAreBelow below X) (h0 : Head) (T : Spine) (e : σ x ≡ put (skeleton X) (lambdas (length (taken X)) (root h0 T))) where
  abbrev Σ₁ : Signature
  Σ₁ = with_entries Σ first (blocks_of C.blocks)

  abbrev Σe : Signature
  Σe = with_entries Σ' first (blocks_of C.blocks)

  abbrev Y0 : LfType
  Y0 = type_in first C θ σ X

  abbrev E : List LfType
  E = binders [] (type_in first C θ σ X)

  abbrev τ : ℕ → Image
  τ = after ρ σ

  pub type_skeleton_is : skeleton (type_in first C θ σ X) ≡ skeleton X
  type_skeleton_is = skeleton_substituted reduce σ (read_type (entry_reading first (blocks_of C.blocks) θ (length C.variables)) X) ∙ skeleton_read (entry_reading first (blocks_of C.blocks) θ (length C.variables)) X

  pub locals_are : context_skeletons (binders [] (type_in first C θ σ X)) ≡ context_skeletons (taken X)
  locals_are = locals_same (type_in first C θ σ X) X [] [] type_skeleton_is refl

  pub written_locals : context_skeletons (instance (taken X) (after ρ σ)) ≡ context_skeletons (taken X)
  written_locals = ap context_skeletons (taken_same (substitute_type reduce (after ρ σ) X) (after ρ σ) zero (after ρ σ) (λ k. same k) (after ρ σ) X) ∙ locals_same (substitute_type reduce (after ρ σ) X) X [] [] (skeleton_substituted reduce (after ρ σ) X) refl
    where
      same : (k : ℕ) → after ρ σ (k + 0) ≡ after ρ σ k
      same k = ap (after ρ σ) (none k)
        where
          none : (k : ℕ) → k + 0 ≡ k
          none k = omega arith

  pub locals_length : length (binders [] (type_in first C θ σ X)) ≡ length (taken X)
  locals_length = sym (skeletons_length E) ∙ ap length locals_are ∙ skeletons_length (taken X)

  pub value_type : HasType Σ' G (lambdas (length (taken X)) (root h0 T)) (type_in first C θ σ X)
  value_type = (subst (λ y. ImageHasType Σ' G y Y0) e (values_typed Σ' r.extends.ok G first (blocks_of C.blocks) θ C.variables σ r.is_instance.values x X at)).1

  pub root_typed : HasType Σ' (onto (binders [] (type_in first C θ σ X)) G) (root h0 T) (atom (target (type_in first C θ σ X)) (target_arguments (type_in first C θ σ X)))
  root_typed = subst (λ D. HasType Σ' D (root h0 T) (atom (target Y0) (target_arguments Y0))) (binders_over [] Y0 G) (root_of Σ' G Y0 (length (taken X)) h0 T locals_length value_type)

  pub families : TakesIn S (type_in first C θ σ X)
  families = takes_same S X Y0 (sym type_skeleton_is) fams

  pub types_in : AllTypesIn Σ W below s S sc Σ' r.extends (onto (binders [] (type_in first C θ σ X)) G)
  types_in = subst (AllTypesIn Σ W below s S sc Σ' r.extends) (binders_over [] Y0 G) (local_types_taken Σ W below s S sc Σ' r.extends Y0 G families (below_same below X Y0 (sym type_skeleton_is) args) (context_types Σ W below s S sc Σ' r.extends w))

  pub in_set : S (target (type_in first C θ σ X)) ≡ true
  in_set = takes_in_target S Y0 families

  -- the type of the head in the context
  module _ (Z : LfType) (hz : HeadHasType Σ' (onto (binders [] (type_in first C θ σ X)) G) h0 Z) (st : SpineType Σ' (onto (binders [] (type_in first C θ σ X)) G) T Z (atom (target (type_in first C θ σ X)) (target_arguments (type_in first C θ σ X)))) where
    pub target_same : target Z ≡ target Y0
    target_same = spine_target Σ' (onto E G) T Z (atom (target Y0) (target_arguments Y0)) st

    pub head_families : (h : Head) → HeadHasType Σ' (onto (binders [] (type_in first C θ σ X)) G) h Z → FamiliesIn S Z
    head_families (constant k) q = sc.types_in k Z (r.extends.no_new k Z q (ap S target_same ∙ in_set)) (ap S target_same ∙ in_set)
    head_families (variable i) q =
        let g : ℕ = target Y0 in
        families_within (part Σ W below s S sc Σ' r.extends g) S (part_low Σ W below s S sc Σ' r.extends g) Z (types_in g in_set i Z q (ap (part Σ W below s S sc Σ' r.extends g) target_same ∙ part_itself Σ W below s S sc Σ' r.extends g in_set))
    head_families (metavariable m) q = absurd q

    pub low_arguments : ArgumentsAreBelow below Z → LowBy below (context_skeletons (taken X)) (skeleton Z) T
    low_arguments b = subst (λ Δ. LowBy below Δ (skeleton Z) T) locals_are (low_places_by below E (arguments_count Z) Z T refl (spine_uses_low Σ W below s S sc Σ' r.extends E G types_in (arguments_count Z) T Z (target Y0) (target_arguments Y0) (head_families h0 hz) b st refl))

    pub put_low : ArgumentsAreBelow below Z → LowBy below (context_skeletons (taken X)) (skeleton Z) (substitute_spine reduce (lift_over (taken X) ρ) T)
    put_low b = low_put below (taken X) ρ (skeleton Z) T (low_arguments b)

    pub put_skeleton : SpineSkeleton (constant_skeletons Σe) (context_skeletons (onto E F)) (substitute_spine reduce (lift_over (taken X) ρ) T) (skeleton Z) (skeleton (atom (target Y0) (target_arguments Y0)))
    put_skeleton = subst (λ f. SpineSkeleton (constant_skeletons Σe) (context_skeletons (onto E F)) (substitute_spine reduce f T) (skeleton Z) (skeleton (atom (target Y0) (target_arguments Y0)))) (lift_same E (taken X) ρ locals_length) (substitution_keeps_spine_skeletons (constant_skeletons Σe) (context_skeletons (onto E G)) (context_skeletons (onto E F)) (lift_over E ρ) T (skeleton Z) (skeleton (atom (target Y0) (target_arguments Y0))) (over_fits (constant_skeletons Σe) E G F ρ (writing_fits Σ Σ' w first C θ σ r F ρ (itself hw))) (spine_more Σ' Σe (own_types Σ Σ' w first C θ σ r) (context_skeletons (onto E G)) T (skeleton Z) (skeleton (atom (target Y0) (target_arguments Y0))) (typed_spine_has_skeleton Σ' (onto E G) T Z (atom (target Y0) (target_arguments Y0)) st)))

  -- The written context
  pub here : TypeAt (items_context (free_variables C.variables)) x X
  here = subst (λ D. TypeAt D x X) (sym (free_context_is C.variables)) at

  pub items_written : AreTypedItems Σe [] (free_variables C.variables)
  items_written = free_typed Σe [] C.variables (Rattle.lf_numbered.proofs.EntrySignature.grown_contexts Σ₁ Σe (types_more Σ Σ' w first C θ σ r) r.extends.kinds_stay C.variables r.variables.variables)

  pub v : World (with_entries Σ' first (blocks_of C.blocks)) [] nothing F
  v = alone Σe F hw.context

  pub values_put : (i : ℕ) (A : LfType) → TypeAt C.variables i A → (N : Term) × (after ρ σ i ≡ put (skeleton A) N) × HasType Σe F N (substitute_type reduce (after ρ σ) A)
  values_put i A g = by (σ i) refl (value_is Σ' G (entry_reading first (blocks_of C.blocks) θ) C.variables σ r.is_instance.values i A g)
    where
      value_is : (Σ : Signature) (G : List LfType) (f : ℕ → ℕ → Option (ℕ × ℕ)) (X : List LfType) (σ : ℕ → Image) → Rattle.lf_numbered.specs.NumberedCase.AreGroundValues Σ G f X σ → (x : ℕ) (A : LfType) → TypeAt X x A → (N : Term) × (σ x ≡ put (skeleton A) N)
      value_is Σ G f [] σ v x A g = absurd g
      value_is Σ G f (B ∷ X) σ (N, τ, v, n, e) zero A g = (N, ap (λ k. k 0) e ∙ ap (λ a. put a N) (sym (ap skeleton g ∙ skeleton_renamed suc B)))
      value_is Σ G f (B ∷ X) σ (N, τ, v, n, e) (suc x) A (D, g, q) = let (M, p) = value_is Σ G f X τ v x D g in (M, ap (λ k. k (suc x)) e ∙ p ∙ ap (λ a. put a M) (sym (ap skeleton q ∙ skeleton_renamed suc D)))

      by : (y : Image) → σ i ≡ y → (N : Term) × (σ i ≡ put (skeleton A) N) → (N : Term) × (after ρ σ i ≡ put (skeleton A) N) × HasType Σe F N (substitute_type reduce (after ρ σ) A)
      by y q (N, p) = (substitute reduce ρ N, ap (substitute_image ρ) p, (subst (λ z. ImageHasType Σe F z (substitute_type reduce (after ρ σ) A)) (ap (substitute_image ρ) p) (values_are_typed Σ Σ' w first C θ σ r F ρ back hw i A g)).1)

  pub ground : IsGroundInstance v (free_variables C.variables) (after ρ σ)
  ground = ground_of v C.variables (after ρ σ) values_put
