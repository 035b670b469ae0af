-- A store of a pattern's type over variables, with given terms and arguments that are typed beside it, is well formed behind equations that are typed.
use Rattle.std.proofs.Common.{◌≡◌, ℕ, zero, ◌+◌, List, [], length, inl, inr, refl, sym, ap, ◌∙◌, subst}
use Rattle.std.specs.Prelude.{Option, Some, ◌⊎◌}
use Rattle.lf.specs.Syntax.{Term, Spine, LfType, Kind, base, skeleton, kind_skeleton, rename_spine, rename_type}
use Rattle.lf.specs.Substitution.{Image, substitute_spine, substitute_type, after, reduce}
use Rattle.lf.specs.SkeletonTyping.{SkeletonAt, TermSkeleton, SpineSkeleton, ImageSkeleton, SubstitutionBySkeletons}
use Rattle.lf.specs.Skeletons.{constant_skeletons, context_skeletons}
use Rattle.lf.specs.AtOnce.{shift_by, lift_renaming_by}
use Rattle.lf.specs.Typing.{Signature, TypeAt, HasType, SpineFitsKind, IsType, IsKind, IsContext, IsSignature, IsTypedRenaming}
use Rattle.lf.specs.Variables.{target, target_arguments, binders, onto}
use Rattle.lf.specs.Worlds.{lift_over, instance}
use Rattle.lf.proofs.Closed.{closed_kind_substituted}
use Rattle.lf.proofs.SkeletonTyping.{substitution_keeps_spine_skeletons}
use Rattle.lf.proofs.Substitution.{family_kind}
use Rattle.lf.proofs.Decidability.{variable_type_unique}
use Rattle.lf.proofs.ToSkeletons.{variable_has_skeleton, skeleton_has_variable, typed_has_skeleton, kind_spine_has_skeleton, kind_by_skeletons}
use Rattle.lf.proofs.TypeLaws.{skeleton_renamed, skeleton_substituted}
use Rattle.lf_unification.specs.Lists.{followed}
use Rattle.lf_unification.specs.OpenTyping.{skeletons_of}
use Rattle.lf_unification.specs.PartialInstance.{EquationsAreTyped, IsFilling, PartialInstance}
use Rattle.lf_unification.specs.Solving.{IsWellFormed}
use Rattle.lf_unification.specs.Unifiers.{Equation, SolvesAll, Store}
use Rattle.lf_unification.proofs.EquationLemmas.{solves_first}
use Rattle.lf_unification.proofs.RigidSteps.{solves_rest}
use Rattle.lf_cases.specs.Candidates.{given_images}
use Rattle.lf_cases.specs.OutputGoal.{renumber}
use Rattle.lf_cases.specs.Pattern.{given_at}
use Rattle.lf_cases.proofs.Assemble.{binders_typed, end_typed}
use Rattle.lf_cases.proofs.OutputItems.{lifted, lift_renumber}
use Rattle.lf_totality.proofs.RaisedOutputs.{binders_over}
use Rattle.lf_coverage.specs.MeetStore.{open_arguments, place_equations, given_equations}
use Rattle.lf_coverage.specs.SplitStore.{open_spine, open_locals, context_metavariables}
use Rattle.lf_coverage.specs.TypedCase.{TypedArguments}
use Rattle.lf_coverage.proofs.ContextFillings.{values, places}
use Rattle.lf_coverage.proofs.ContextStore.{context_store_ready}
use Rattle.lf_coverage.proofs.Forms.{far_type}
use Rattle.lf_coverage.proofs.GivenEquations.{both_typed, given_agree, given_are_typed}
use Rattle.lf_coverage.proofs.GivenValues.{StandsForItself, StandsForGiven, given_cases, far_renames, spine_put}
use Rattle.lf_coverage.proofs.OpenSkeletons.{filled_fits}
use Rattle.lf_coverage.proofs.OpenTyped.{open_kind, family_open}
use Rattle.lf_coverage.proofs.Parts.{some_same}
use Rattle.lf_coverage.proofs.Transfer.{lift_instance}
use Rattle.lf_numbered.specs.MeetsReady.{AreTypedBeside}
use Rattle.lf_numbered.proofs.MeetsReadySolved.{renumbered_still, spine_still}

-- the store
abbrev pub placed_store : List LfType → List Equation → List (Option Term) → List (Option Term) → LfType → Kind → Store
placed_store X ids Ms Ns T K = record {
  metavariables = context_metavariables X;
  bindings = [];
  equations = followed ids (followed (given_equations X zero Ms) (place_equations (open_locals (binders [] T)) (open_arguments (length (binders [] T)) Ns) (open_spine (length (binders [] T)) (target_arguments T)) K));
}

-- what stands under the quantifiers of a type, and what its family takes there
module _ (Σ : Signature) (ok : IsSignature Σ) (X : List LfType) (joint_context : IsContext Σ X) (T : LfType) (tT : IsType Σ X T) where
  pub local_typed : IsContext Σ (onto (binders [] T) X)
  local_typed = subst (IsContext Σ) (binders_over [] T X) (binders_typed Σ ok T X joint_context tT)

  pub arguments_fit : (K : Kind) → Σ.kinds (target T) ≡ Some K → SpineFitsKind Σ (onto (binders [] T) X) (target_arguments T) K
  arguments_fit K of_family =
      let (K', e, s) = end_typed Σ ok T X tT in
      subst (SpineFitsKind Σ (onto (binders [] T) X) (target_arguments T)) (some_same (sym e ∙ of_family)) (subst (λ G. SpineFitsKind Σ G (target_arguments T) K') (binders_over [] T X) s)

module _ (Σ : Signature) (ok : IsSignature Σ) (X : List LfType) (joint_context : IsContext Σ X) (ids : List Equation) (L : List LfType) (Ms Ns : List (Option Term)) (T : LfType) (tT : IsType Σ X T) (K : Kind) (of_family : Σ.kinds (target T) ≡ Some K) (tb : AreTypedBeside Σ X L Ms Ns T K) where
  abbrev D : List LfType
  D = binders [] T

  abbrev g : ℕ → Image
  g = given_images X Ms zero

  abbrev U : (ℕ → Option Term) → Type 0
  U = IsFilling Σ [] (placed_store X ids Ms Ns T K)

  abbrev half : (β : ℕ → Option Term) → U β → (F : List LfType) × PartialInstance Σ [] (context_metavariables X) (λ m. ⊥) F β
  half β (F, w, u) = (F, w)

  fg : SubstitutionBySkeletons (constant_skeletons Σ) (context_skeletons X) (context_skeletons X) g
  fg i t k = by (given_cases X Ms zero i)
    where
      moved : (A : LfType) → TypeAt X i A → skeleton A ≡ t → SkeletonAt (context_skeletons X) (i + zero) t
      moved A h e = subst (SkeletonAt (context_skeletons X) (i + zero)) (skeleton_renamed (shift_by zero) A ∙ e) (variable_has_skeleton X (i + zero) (rename_type (shift_by zero) A) (far_type [] X i A h))

      by : StandsForItself X Ms zero i ⊎ StandsForGiven X Ms zero i → ImageSkeleton (constant_skeletons Σ) (context_skeletons X) (g i) t
      by (inl (q, none)) = let (A, h, e) = skeleton_has_variable X i t k in subst (λ x. ImageSkeleton (constant_skeletons Σ) (context_skeletons X) x t) (sym q) (moved A h e)
      by (inr (B, M, b, m, q)) =
          let (A, h, e) = skeleton_has_variable X i t k in
          let s : skeleton B ≡ t = ap skeleton (variable_type_unique X i B A b h) ∙ e in
          subst (λ x. ImageSkeleton (constant_skeletons Σ) (context_skeletons X) x t) (sym q) (s, subst (TermSkeleton (constant_skeletons Σ) (context_skeletons X) M) (skeleton_substituted reduce g B) (typed_has_skeleton Σ X M (substitute_type reduce g B) (tb.given i B M b m)))

  far : IsTypedRenaming X X (shift_by zero)
  far = far_renames [] X

  -- a given term has the type of its variable, with the given terms put in
  given_term : (i : ℕ) (A : LfType) (M : Term) → TypeAt X i A → given_at Ms i ≡ Some M → HasType Σ X M (substitute_type reduce g A)
  given_term = tb.given

  solved : (β : ℕ → Option Term) → U β → SolvesAll (skeletons_of (context_metavariables X)) β (given_equations X zero Ms)
  solved β u = solves_first (skeletons_of (context_metavariables X)) β (given_equations X zero Ms) _ (solves_rest (skeletons_of (context_metavariables X)) β ids _ u.2.1)

  -- a filling of the store gives the variables the given terms' values
  agrees : (β : ℕ → Option Term) (u : U β) (i : ℕ) → after (values Σ ok X joint_context U half β u) g i ≡ values Σ ok X joint_context U half β u (i + zero)
  agrees = given_agree Σ ok [] X joint_context joint_context Ms given_term fg U half solved

  -- the equations of the places
  abbrev S : Spine
  S = target_arguments T

  abbrev place_list : List LfType → Spine → Kind → List Equation
  place_list E R Z = place_equations (open_locals E) (open_arguments (length E) Ns) (open_spine (length E) R) Z

  placed : EquationsAreTyped Σ [] (context_metavariables X) U (place_list D S K)
  placed =
      let Φ : ℕ → Option LfType = context_metavariables X in
      let L1 : List LfType = renumber (shift_by zero) D in
      let L2 : List LfType = instance D g in
      let S1 : Spine = rename_spine (lift_renaming_by (length D) (shift_by zero)) S in
      let R : Spine = substitute_spine reduce (lift_over D g) S in
      let ck : IsKind Σ [] K = ok.kinds_ok (target T) K of_family in
      let d : L1 ≡ D = renumbered_still D in
      let s : S1 ≡ S = spine_still (length D) S in
      let o : open_kind (length L1) K ≡ K = family_open Σ ok X U (length L1) (target T) K of_family in
      let ss : SpineSkeleton (constant_skeletons Σ) (context_skeletons (onto D X)) S (kind_skeleton 0 K) (base 0) = kind_spine_has_skeleton Σ 0 (onto D X) S K (arguments_fit Σ ok X joint_context T tT K of_family) in
      let fits : SpineFitsKind Σ (onto L1 X) S1 K = subst (λ E. SpineFitsKind Σ (onto E X) S1 K) (sym d) (subst (λ R. SpineFitsKind Σ (onto D X) R K) (sym s) (arguments_fit Σ ok X joint_context T tT K of_family)) in
      let r : EquationsAreTyped Σ [] Φ U (place_list L1 S1 (open_kind (length L1) K)) =
      places Σ ok X joint_context U half X zero g fg far agrees D (local_typed Σ ok X joint_context T tT) Ns R S1 K K (kind_by_skeletons Σ (onto L2 X) K (family_kind Σ ok (onto L2 X) (target T) K of_family)) (kind_by_skeletons Σ (onto L1 X) K (family_kind Σ ok (onto L1 X) (target T) K of_family)) refl
      (λ β u. closed_kind_substituted Σ reduce (lift_over L2 (values Σ ok X joint_context U half β u)) K ck ∙ sym (closed_kind_substituted Σ reduce (lift_over L1 (values Σ ok X joint_context U half β u)) K ck))
      (substitution_keeps_spine_skeletons (constant_skeletons Σ) (context_skeletons (onto D X)) (context_skeletons (onto L2 X)) (lift_over D g) S (kind_skeleton 0 K) (base 0) (lifted Σ D X X g fg) ss)
      (λ β u. ap (λ f. substitute_spine reduce f R) (lift_instance D g (values Σ ok X joint_context U half β u)) ∙ spine_put Σ X X (half β u).0 g (values Σ ok X joint_context U half β u) zero fg (filled_fits Σ X (half β u).0 β (half β u).1) (agrees β u) D S (kind_skeleton 0 K) (base 0) ss ∙ ap (λ f. substitute_spine reduce f S1) (sym (lift_renumber (shift_by zero) D (values Σ ok X joint_context U half β u))))
      (subst (λ E. TypedArguments Σ (onto E X) Ns R K) tb.local tb.arguments) fits
      (λ β u. subst (λ Z. SolvesAll (skeletons_of Φ) β (place_list L1 S1 Z)) (sym o) (subst (λ E. SolvesAll (skeletons_of Φ) β (place_list E S1 K)) (sym d) (subst (λ R. SolvesAll (skeletons_of Φ) β (place_list D R K)) (sym s) (solves_rest (skeletons_of Φ) β (given_equations X zero Ms) _ (solves_rest (skeletons_of Φ) β ids _ u.2.1))))) in
      subst (λ R. EquationsAreTyped Σ [] Φ U (place_list D R K)) s (subst (λ E. EquationsAreTyped Σ [] Φ U (place_list E S1 K)) d (subst (λ Z. EquationsAreTyped Σ [] Φ U (place_list L1 S1 Z)) o r))

  -- The lemma
  pub placed_ready : EquationsAreTyped Σ [] (context_metavariables X) U ids → IsWellFormed Σ (placed_store X ids Ms Ns T K)
  placed_ready h = context_store_ready Σ ok X joint_context (placed_store X ids Ms Ns T K).equations (both_typed Σ (context_metavariables X) U ids _ h (both_typed Σ (context_metavariables X) U (given_equations X zero Ms) _ (given_are_typed Σ ok [] X joint_context joint_context Ms given_term fg U half solved) placed))
