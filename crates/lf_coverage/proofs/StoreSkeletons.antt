-- Skeletons type what the equations of a store stand in, of a case with a pattern and of a variable with a head.
use Rattle.std.proofs.Common.{◌≡◌, ℕ, zero, suc, ◌+◌, List, [], ◌∷◌, length, refl, sym, ap, ◌∙◌, subst}
use Rattle.std.specs.Prelude.{Bool, Option, Some, None}
use Rattle.lf.specs.Syntax.{Head, Term, Spine, nil, app, LfType, Kind, kind_pi, star, Skeleton, base, skeleton, kind_skeleton, rename_spine, rename_type}
use Rattle.lf.specs.Substitution.{single, reduce}
use Rattle.lf.specs.SkeletonTyping.{HeadSkeletons, SpineSkeleton, KindBySkeletons, TypeBySkeletons}
use Rattle.lf.specs.Skeletons.{family_skeletons, context_skeletons, type_skeleton}
use Rattle.lf.specs.AtOnce.{shift_by, lift_renaming_by}
use Rattle.lf.specs.Typing.{Signature, TypeAt, IsContext, SpineFitsKind, IsSignature, instantiate_kind}
use Rattle.lf.specs.Variables.{target, target_arguments, binders, onto}
use Rattle.lf.specs.Subordination.{Block, AreTypedBlocks}
use Rattle.lf.proofs.Closed.{closed_kind_renamed}
use Rattle.lf.proofs.SkeletonTypes.{single_kind_by_skeletons}
use Rattle.lf.proofs.Substitution.{family_kind}
use Rattle.lf.proofs.ToSkeletons.{kind_by_skeletons, kind_skeleton_substituted, kind_spine_has_skeleton, type_by_skeletons}
use Rattle.lf.proofs.Weakening.{declared_is_type, renaming_keeps_kind_spines, renaming_keeps_types}
use Rattle.lf_unification.specs.Offering.{spine_equations}
use Rattle.lf_unification.specs.Patterns.{local_skeletons}
use Rattle.lf_unification.specs.Unifiers.{Equation}
use Rattle.lf_unification.specs.Lists.{followed}
use Rattle.lf_checks.specs.Clause.{scope}
use Rattle.lf_cases.specs.Case.{Item, Case, items_context}
use Rattle.lf_cases.specs.OutputGoal.{renumber}
use Rattle.lf_cases.specs.Missing.{AreTypedItems}
use Rattle.lf_cases.specs.Pattern.{Pattern}
use Rattle.lf_cases.specs.Reached.{SplitHead, arguments_count, split_items, taken}
use Rattle.lf_cases.proofs.OutputItems.{length_renumber}
use Rattle.lf_coverage.specs.Laws.{StoresHaveSkeletons}
use Rattle.lf_coverage.specs.Leaf.{IsTypedPattern}
use Rattle.lf_coverage.specs.MeetStore.{given_equations, meet_store, one_given, open_arguments, place_equations}
use Rattle.lf_coverage.specs.SplitStore.{open_locals, open_some, open_spine, open_type, split_store, type_in, context_metavariables}
use Rattle.lf_coverage.specs.StoreSkeletons.{declared_in, LocalsHaveSkeletons, StoreHasSkeletons, TypesHaveSkeletons}
use Rattle.lf_coverage.specs.TypedCase.{IsTypedBeside}
use Rattle.lf_coverage.proofs.GivenValues.{far_renames, local_renames}
use Rattle.lf_coverage.proofs.MeetReady.{arguments_fit, joint_context, local_typed}
use Rattle.lf_coverage.proofs.OpenSkeletons.{kind_opened_by, spine_opened_by, type_opened_by}
use Rattle.lf_coverage.proofs.OpenTyped.{family_open}
use Rattle.lf_coverage.proofs.Parts.{some_same}
use Rattle.lf_coverage.proofs.SplitReady.{cc0, context_under, first_fits, lengths, tx}
use Rattle.lf_coverage.proofs.StoreSolution.{found_type, looked_up, skeleton_open}

module _ (Σ : Signature) (Ψ : ℕ → Option LfType) where
  pub both_have : (es fs : List Equation) → TypesHaveSkeletons Σ Ψ es → TypesHaveSkeletons Σ Ψ fs → TypesHaveSkeletons Σ Ψ (followed es fs)
  both_have [] fs h k = k
  both_have (e ∷ es) fs (x, h) k = (x, both_have es fs h k)

  next_spine : (Δ : List Skeleton) (A : LfType) (M : Term) (K : Kind) (S : Spine) → SpineSkeleton (declared_in Σ Ψ) Δ S (kind_skeleton 0 K) (base 0) → SpineSkeleton (declared_in Σ Ψ) Δ S (kind_skeleton 0 (instantiate_kind A M K)) (base 0)
  next_spine Δ A M K S s = subst (λ t. SpineSkeleton (declared_in Σ Ψ) Δ S t (base 0)) (sym (kind_skeleton_substituted 0 reduce (single (skeleton A) M) K)) s

  pub spine_have : (D : List LfType) → LocalsHaveSkeletons Σ Ψ D → (K : Kind) (S T : Spine) → KindBySkeletons (family_skeletons Σ) (declared_in Σ Ψ) (local_skeletons D []) K → SpineSkeleton (declared_in Σ Ψ) (local_skeletons D []) S (kind_skeleton 0 K) (base 0) → TypesHaveSkeletons Σ Ψ (spine_equations D K S T)
  spine_have D l star S T k s = tt
  spine_have D l (kind_pi A K) nil T k s = tt
  spine_have D l (kind_pi A K) (app M S) nil k s = tt
  spine_have D l (kind_pi A K) (app M S) (app N T) (a, k) (m, s) = ((l, a), spine_have D l (instantiate_kind A M K) S T (single_kind_by_skeletons (family_skeletons Σ) (declared_in Σ Ψ) (skeleton A) (local_skeletons D []) M K m k) (next_spine (local_skeletons D []) A M K S s))

  pub places_have : (D : List LfType) → LocalsHaveSkeletons Σ Ψ D → (Ms : List (Option Term)) (S : Spine) (K : Kind) → KindBySkeletons (family_skeletons Σ) (declared_in Σ Ψ) (local_skeletons D []) K → SpineSkeleton (declared_in Σ Ψ) (local_skeletons D []) S (kind_skeleton 0 K) (base 0) → TypesHaveSkeletons Σ Ψ (place_equations D Ms S K)
  places_have D l [] S K k s = tt
  places_have D l (M ∷ Ms) nil K k s = tt
  places_have D l (M ∷ Ms) (app Q S) star k s = tt
  places_have D l (Some M ∷ Ms) (app Q S) (kind_pi A K) (a, k) (q, s) = ((l, a), places_have D l Ms S (instantiate_kind A Q K) (single_kind_by_skeletons (family_skeletons Σ) (declared_in Σ Ψ) (skeleton A) (local_skeletons D []) Q K q k) (next_spine (local_skeletons D []) A Q K S s))
  places_have D l (None ∷ Ms) (app Q S) (kind_pi A K) (a, k) (q, s) = places_have D l Ms S (instantiate_kind A Q K) (single_kind_by_skeletons (family_skeletons Σ) (declared_in Σ Ψ) (skeleton A) (local_skeletons D []) Q K q k) (next_spine (local_skeletons D []) A Q K S s)

-- over a context whose variables are the metavariables
module _ (Σ : Signature) (ok : IsSignature Σ) (X : List LfType) (cx : IsContext Σ X) where
  abbrev Ψ : ℕ → Option LfType
  Ψ = context_metavariables X

  abbrev κ : HeadSkeletons
  κ = declared_in Σ (context_metavariables X)

  declared : (i : ℕ) (A : LfType) → TypeAt X i A → type_skeleton (context_metavariables X i) ≡ Some (skeleton A)
  declared i A h = ap (λ y. type_skeleton (open_some y)) (looked_up X i A h) ∙ ap Some (skeleton_open zero A)

  pub type_has : (L : List LfType) (A : LfType) → TypeBySkeletons (family_skeletons Σ) (Rattle.lf.specs.Skeletons.constant_skeletons Σ) (context_skeletons (onto L X)) A → TypeBySkeletons (family_skeletons Σ) κ (local_skeletons (open_locals L) []) (open_type (length L) A)
  type_has L A k = type_opened_by Σ X κ (λ c. refl) declared L [] A k

  pub locals_have : (L : List LfType) → IsContext Σ (onto L X) → LocalsHaveSkeletons Σ Ψ (open_locals L)
  locals_have [] c = tt
  locals_have (A ∷ L) (c, t) = (locals_have L c, type_has L A (type_by_skeletons Σ (onto L X) A t))

  pub kind_has : (L : List LfType) (a : ℕ) (K : Kind) → Σ.kinds a ≡ Some K → KindBySkeletons (family_skeletons Σ) κ (local_skeletons (open_locals L) []) K
  kind_has L a K e = subst (KindBySkeletons (family_skeletons Σ) κ (local_skeletons (open_locals L) [])) (family_open Σ ok X (λ β. Unit {0}) (length L) a K e) (kind_opened_by Σ X κ (λ c. refl) declared L [] K (kind_by_skeletons Σ (onto L X) K (family_kind Σ ok (onto L X) a K e)))

  pub spine_has : (L : List LfType) (S : Spine) (K : Kind) → SpineFitsKind Σ (onto L X) S K → SpineSkeleton κ (local_skeletons (open_locals L) []) (open_spine (length L) S) (kind_skeleton 0 K) (base 0)
  spine_has L S K s = spine_opened_by Σ X κ (λ c. refl) declared L [] S (kind_skeleton 0 K) (base 0) (kind_spine_has_skeleton Σ 0 (onto L X) S K s)

  pub givens_have : (k : ℕ) (Ms : List (Option Term)) → TypesHaveSkeletons Σ Ψ (given_equations X k Ms)
  givens_have k [] = tt
  givens_have k (N ∷ Ms) = by (type_in X k) refl N (givens_have (suc k) Ms)
    where
      by : (y : Option LfType) → type_in X k ≡ y → (x : Option Term) → TypesHaveSkeletons Σ Ψ (given_equations X (suc k) Ms) → TypesHaveSkeletons Σ Ψ (one_given k y x (given_equations X (suc k) Ms))
      by None e x rest = rest
      by (Some A) e None rest = rest
      by (Some A) e (Some M) rest = ((tt, type_has [] A (type_by_skeletons Σ X A (declared_is_type Σ ok X k A cx (found_type X k A e)))), rest)

meet_has : (Σ : Signature) → IsSignature Σ → (W : List Block) → AreTypedBlocks Σ W → (C : Case) (p : Pattern) → IsTypedPattern Σ p → (tb : IsTypedBeside Σ W C p) → StoreHasSkeletons Σ (meet_store C p tb.kind)
meet_has Σ ok W typed C p tp tb =
    let O : List LfType = items_context C.items in
    let Q : List LfType = scope p.clause in
    let X : List LfType = onto O Q in
    let n : ℕ = length O in
    let D : List LfType = binders [] p.type in
    let cx : IsContext Σ X = joint_context Σ ok W typed C p tp tb in
    let L1 : List LfType = renumber (shift_by n) D in
    let S1 : Spine = rename_spine (lift_renaming_by (length D) (shift_by n)) (target_arguments p.type) in
    let fits : SpineFitsKind Σ (onto L1 X) S1 tb.kind = subst (SpineFitsKind Σ (onto L1 X) S1) (closed_kind_renamed Σ (lift_renaming_by (length D) (shift_by n)) tb.kind (ok.kinds_ok C.family tb.kind tb.of_family)) (renaming_keeps_kind_spines Σ ok (onto D Q) (onto L1 X) (lift_renaming_by (length D) (shift_by n)) (target_arguments p.type) tb.kind (local_renames Σ ok D Q X (shift_by n) (far_renames O Q)) (arguments_fit Σ ok W typed C p tp tb)) in
    both_have Σ (context_metavariables X) (given_equations X n C.given) _ (givens_have Σ ok X cx n C.given)
    (places_have Σ (context_metavariables X) (open_locals L1) (locals_have Σ ok X cx L1 (renumbered D (local_typed Σ ok W typed C p tp tb))) (open_arguments (length D) C.arguments) (open_spine (length D) S1) tb.kind (kind_has Σ ok X cx L1 C.family tb.kind tb.of_family) (subst (λ k. SpineSkeleton (declared_in Σ (context_metavariables X)) (local_skeletons (open_locals L1) []) (open_spine k S1) (kind_skeleton 0 tb.kind) (base 0)) (length_renumber (shift_by n) D) (spine_has Σ ok X cx L1 S1 tb.kind fits)))
  where
    renumbered : (L : List LfType) → IsContext Σ (onto L (scope p.clause)) → IsContext Σ (onto (renumber (shift_by (length (items_context C.items))) L) (onto (items_context C.items) (scope p.clause)))
    renumbered [] c = joint_context Σ ok W typed C p tp tb
    renumbered (A ∷ L) (c, t) = (renumbered L c, renaming_keeps_types Σ ok (onto L (scope p.clause)) (onto (renumber (shift_by (length (items_context C.items))) L) (onto (items_context C.items) (scope p.clause))) (lift_renaming_by (length L) (shift_by (length (items_context C.items)))) A (local_renames Σ ok L (scope p.clause) (onto (items_context C.items) (scope p.clause)) (shift_by (length (items_context C.items))) (far_renames (items_context C.items) (scope p.clause))) t)

module _ (Σ : Signature) (ok : IsSignature Σ) (W : List Block) (typed : AreTypedBlocks Σ W) (below : ℕ → ℕ → Bool) (I : List Item) (ti : AreTypedItems Σ W I) (x : ℕ) (X : LfType) (at : TypeAt (items_context I) x X) (J : List Item) (n : ℕ) (h : Head) (A : LfType) (sh : SplitHead Σ W I X J n h A) (K : Kind) (of_family : Σ.kinds (target X) ≡ Some K) where
  split_has : StoreHasSkeletons Σ (split_store below x X J n h A K)
  split_has =
      let C : List LfType = items_context (split_items below X J n A) in
      let X2 : LfType = rename_type (shift_by (n + arguments_count A)) X in
      let D : List LfType = taken X2 in
      let cx : IsContext Σ C = cc0 Σ ok W typed below I ti x X at J n h A sh in (
        (tt, type_has Σ ok C cx [] X2 (type_by_skeletons Σ C X2 (tx Σ ok W typed below I ti x X at J n h A sh K of_family))),
        spine_have Σ (context_metavariables C) (open_locals D) (locals_have Σ ok C cx D (context_under Σ ok W typed below I ti x X at J n h A sh K of_family)) K (open_spine (length (taken X)) (target_arguments X2)) _ (kind_has Σ ok C cx D (target X) K of_family) (subst (λ k. SpineSkeleton (declared_in Σ (context_metavariables C)) (local_skeletons (open_locals D) []) (open_spine k (target_arguments X2)) (kind_skeleton 0 K) (base 0)) (lengths Σ ok W typed below I ti x X at J n h A sh K of_family) (spine_has Σ ok C cx D (target_arguments X2) K (first_fits Σ ok W typed below I ti x X at J n h A sh K of_family))),
      )

pub stores_have_skeletons : StoresHaveSkeletons
stores_have_skeletons Σ ok W typed C = (
  λ p tp tb K e. subst (λ L. StoreHasSkeletons Σ (meet_store C p L)) (some_same (sym tb.of_family ∙ e)) (meet_has Σ ok W typed C p tp tb),
  λ below tc x X at J n h A sh K e. split_has Σ ok W typed below C.items tc.items x X at J n h A sh K e,
)
