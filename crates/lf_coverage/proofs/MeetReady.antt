-- The store in which a typed case is unified with a pattern is well formed.
use Rattle.std.proofs.Common.{◌≡◌, ℕ, ◌+◌, List, [], length, inl, inr, refl, sym, ap, ◌∙◌, subst}
use Rattle.std.specs.Prelude.{Option, Some, ◌⊎◌}
use Rattle.lf.specs.Syntax.{Term, Spine, LfType, atom, Kind, base, kind_skeleton, rename_spine}
use Rattle.lf.specs.Substitution.{Image, substitute_spine, substitute_type, after, reduce}
use Rattle.lf.specs.SkeletonTyping.{SpineSkeleton, SubstitutionBySkeletons}
use Rattle.lf.specs.Skeletons.{constant_skeletons, context_skeletons}
use Rattle.lf.specs.AtOnce.{shift_by, lift_renaming_by}
use Rattle.lf.specs.Typing.{Signature, TypeAt, HasType, SpineFitsKind, IsType, IsKind, IsContext, IsSignature, IsTypedRenaming, ImageHasType}
use Rattle.lf.specs.Variables.{target, target_arguments, binders, onto, Values}
use Rattle.lf.specs.Subordination.{Block, AreTypedBlocks}
use Rattle.lf.specs.Worlds.{lift_over, instance}
use Rattle.lf.proofs.Closed.{closed_kind_renamed, closed_kind_substituted}
use Rattle.lf.proofs.SkeletonTyping.{substitution_keeps_spine_skeletons}
use Rattle.lf.proofs.Substitution.{family_kind}
use Rattle.lf.proofs.ToSkeletons.{kind_spine_has_skeleton, kind_by_skeletons}
use Rattle.lf.proofs.Weakening.{renaming_keeps_kind_spines}
use Rattle.lf_unification.specs.OpenTyping.{skeletons_of}
use Rattle.lf_unification.specs.PartialInstance.{EquationsAreTyped, IsFilling, PartialInstance}
use Rattle.lf_unification.specs.Solving.{IsWellFormed}
use Rattle.lf_unification.specs.Unifiers.{SolvesAll}
use Rattle.lf_unification.proofs.EquationLemmas.{solves_first}
use Rattle.lf_unification.proofs.RigidSteps.{solves_rest}
use Rattle.lf_checks.specs.Clause.{scope}
use Rattle.lf_cases.specs.Case.{Case, items_context}
use Rattle.lf_cases.specs.Pattern.{Pattern, is_given, given_at}
use Rattle.lf_cases.specs.OutputGoal.{renumber}
use Rattle.lf_cases.specs.Candidates.{with_given}
use Rattle.lf_cases.proofs.Assemble.{binders_typed, end_typed}
use Rattle.lf_cases.proofs.OutputItems.{lifted, length_renumber, lift_renumber}
use Rattle.lf_totality.proofs.RaisedOutputs.{binders_over}
use Rattle.lf_coverage.specs.Leaf.{IsTypedPattern}
use Rattle.lf_coverage.specs.TypedCase.{TypedArguments, IsTypedBeside, given_values}
use Rattle.lf_coverage.specs.MeetStore.{open_arguments, place_equations, given_equations, meet_store}
use Rattle.lf_coverage.specs.SplitStore.{open_spine, open_locals, context_metavariables}
use Rattle.lf_coverage.proofs.ContextStore.{context_store_ready}
use Rattle.lf_coverage.proofs.GivenEquations.{both_typed, given_agree, given_are_typed}
use Rattle.lf_coverage.proofs.GivenValues.{StandsForItself, StandsForGiven, given_cases, given_there, given_fits, onto_context, values_near, far_renames, local_renames, spine_put}
use Rattle.lf_coverage.proofs.ItemsContext.{items_are_context}
use Rattle.lf_coverage.proofs.OpenSkeletons.{filled_fits}
use Rattle.lf_coverage.proofs.OpenTyped.{open_kind, family_open}
use Rattle.lf_coverage.proofs.Transfer.{lift_instance}
use Rattle.lf_coverage.proofs.Parts.{some_same}
pub use Rattle.lf_coverage.proofs.ContextFillings.{Ψ, skU, MS, values, ok_opened, same_opened}
use Rattle.lf_coverage.proofs.ContextFillings.{places}

module _ (Σ : Signature) (ok : IsSignature Σ) (W : List Block) (typed : AreTypedBlocks Σ W) (C : Case) (p : Pattern) (tp : IsTypedPattern Σ p) (tb : IsTypedBeside Σ W C p) where
  abbrev O : List LfType
  O = items_context C.items

  abbrev Q : List LfType
  Q = scope p.clause

  abbrev X : List LfType
  X = onto (items_context C.items) (scope p.clause)

  abbrev n : ℕ
  n = length (items_context C.items)

  abbrev D : List LfType
  D = binders [] p.type

  abbrev g : ℕ → Image
  g = given_values C p

  abbrev U : (ℕ → Option Term) → Type 0
  U = IsFilling Σ [] (meet_store C p tb.kind)

  abbrev half : (β : ℕ → Option Term) → U β → (F : List LfType) × PartialInstance Σ [] (context_metavariables X) (λ m. ⊥) F β
  half β (F, w, u) = (F, w)

  co : IsContext Σ O
  co = items_are_context Σ ok W typed C.items tb.by_skeletons.items

  pub joint_context : IsContext Σ X
  joint_context = onto_context Σ ok O Q co tp.clause_typed

  pub local_typed : IsContext Σ (onto D Q)
  local_typed = subst (IsContext Σ) (binders_over [] p.type Q) (binders_typed Σ ok p.type Q tp.clause_typed tp.type_typed)

  pub arguments_fit : SpineFitsKind Σ (onto D Q) (target_arguments p.type) tb.kind
  arguments_fit = by (end_typed Σ ok p.type Q tp.type_typed)
    where
      by : IsType Σ (binders Q p.type) (atom (target p.type) (target_arguments p.type)) → SpineFitsKind Σ (onto D Q) (target_arguments p.type) tb.kind
      by (K, e, s) = subst (SpineFitsKind Σ (onto D Q) (target_arguments p.type)) (some_same (sym e ∙ ap Σ.kinds tb.same_family ∙ tb.of_family)) (subst (λ G. SpineFitsKind Σ G (target_arguments p.type) K) (binders_over [] p.type Q) s)

  pub given_near : Values Σ (is_given C.given) Q X g
  given_near = values_near Σ ok (is_given C.given) Q O Q g tb.given

  fg : SubstitutionBySkeletons (constant_skeletons Σ) (context_skeletons Q) (context_skeletons X) g
  fg = given_fits Σ O Q C.given given_near

  far : IsTypedRenaming Q X (shift_by n)
  far = far_renames O Q

  -- a given term has the type of its variable, with the given terms put in
  given_term : (i : ℕ) (A : LfType) (M : Term) → TypeAt Q i A → given_at C.given i ≡ Some M → HasType Σ X M (substitute_type reduce g A)
  given_term i A M h q = found (given_cases Q C.given n i)
    where
      found : StandsForItself Q C.given n i ⊎ StandsForGiven Q C.given n i → HasType Σ X M (substitute_type reduce g A)
      found (inl (e, none)) = absurd (none A M h q)
      found (inr (B, P, b, r, e)) = subst (λ N. HasType Σ X N (substitute_type reduce g A)) (some_same (sym r ∙ q)) (subst (λ x. ImageHasType Σ X x (substitute_type reduce g A)) e (given_near.typed i A h (given_there C.given i P r))).1

  solved : (β : ℕ → Option Term) → U β → SolvesAll (skeletons_of (context_metavariables X)) β (given_equations X n C.given)
  solved β u = solves_first (skeletons_of (context_metavariables X)) β (given_equations X n C.given) _ u.2.1

  -- a filling of the store gives the clause's variables the given terms' values
  pub agrees : (β : ℕ → Option Term) (u : U β) (i : ℕ) → after (values Σ ok X joint_context U half β u) g i ≡ values Σ ok X joint_context U half β u (i + n)
  agrees = given_agree Σ ok O Q tp.clause_typed joint_context C.given given_term fg U half solved

  place_list : EquationsAreTyped Σ [] (context_metavariables X) U (place_equations (open_locals (renumber (shift_by n) D)) (open_arguments (length D) C.arguments) (open_spine (length D) (rename_spine (lift_renaming_by (length D) (shift_by n)) (target_arguments p.type))) tb.kind)
  place_list =
      let K : Kind = tb.kind in
      let Φ : ℕ → Option LfType = context_metavariables X in
      let L1 : List LfType = renumber (shift_by n) D in
      let L2 : List LfType = instance D g in
      let S : Spine = target_arguments p.type in
      let S1 : Spine = rename_spine (lift_renaming_by (length D) (shift_by n)) S in
      let T : Spine = with_given C p.clause D S in
      let ck : IsKind Σ [] K = ok.kinds_ok C.family K tb.of_family in
      let e : length L1 ≡ length D = length_renumber (shift_by n) D in
      let o : open_kind (length L1) K ≡ K = family_open Σ ok X U (length L1) C.family K tb.of_family in
      let ss : SpineSkeleton (constant_skeletons Σ) (context_skeletons (onto D Q)) S (kind_skeleton 0 K) (base 0) = kind_spine_has_skeleton Σ 0 (onto D Q) S K arguments_fit in
      let fits : SpineFitsKind Σ (onto L1 X) S1 K = subst (SpineFitsKind Σ (onto L1 X) S1) (closed_kind_renamed Σ (lift_renaming_by (length D) (shift_by n)) K ck) (renaming_keeps_kind_spines Σ ok (onto D Q) (onto L1 X) (lift_renaming_by (length D) (shift_by n)) S K (local_renames Σ ok D Q X (shift_by n) far) arguments_fit) in
      let r : EquationsAreTyped Σ [] Φ U (place_equations (open_locals L1) (open_arguments (length L1) C.arguments) (open_spine (length L1) S1) (open_kind (length L1) K)) =
      places Σ ok X joint_context U half Q n g fg far agrees D local_typed C.arguments T S1 K K (kind_by_skeletons Σ (onto L2 X) K (family_kind Σ ok (onto L2 X) C.family K tb.of_family)) (kind_by_skeletons Σ (onto L1 X) K (family_kind Σ ok (onto L1 X) C.family K tb.of_family)) refl
      (λ β u. closed_kind_substituted Σ reduce (lift_over L2 (values Σ ok X joint_context U half β u)) K ck ∙ sym (closed_kind_substituted Σ reduce (lift_over L1 (values Σ ok X joint_context U half β u)) K ck))
      (substitution_keeps_spine_skeletons (constant_skeletons Σ) (context_skeletons (onto D Q)) (context_skeletons (onto L2 X)) (lift_over D g) S (kind_skeleton 0 K) (base 0) (lifted Σ D Q X g fg) ss)
      (λ β u. ap (λ f. substitute_spine reduce f T) (lift_instance D g (values Σ ok X joint_context U half β u)) ∙ spine_put Σ X Q (half β u).0 g (values Σ ok X joint_context U half β u) n fg (filled_fits Σ X (half β u).0 β (half β u).1) (agrees β u) D S (kind_skeleton 0 K) (base 0) ss ∙ ap (λ f. substitute_spine reduce f S1) (sym (lift_renumber (shift_by n) D (values Σ ok X joint_context U half β u))))
      (subst (λ L. TypedArguments Σ (onto L X) C.arguments T K) tb.local tb.arguments) fits
      (λ β u. subst (λ Z. SolvesAll (skeletons_of Φ) β (place_equations (open_locals L1) (open_arguments (length L1) C.arguments) (open_spine (length L1) S1) Z)) (sym o) (subst (λ k. SolvesAll (skeletons_of Φ) β (place_equations (open_locals L1) (open_arguments k C.arguments) (open_spine k S1) K)) (sym e) (solves_rest (skeletons_of Φ) β (given_equations X n C.given) _ u.2.1))) in
      subst (λ k. EquationsAreTyped Σ [] Φ U (place_equations (open_locals L1) (open_arguments k C.arguments) (open_spine k S1) K)) e (subst (λ Z. EquationsAreTyped Σ [] Φ U (place_equations (open_locals L1) (open_arguments (length L1) C.arguments) (open_spine (length L1) S1) Z)) o r)

  -- The lemma
  pub meet_ready : IsWellFormed Σ (meet_store C p tb.kind)
  meet_ready = context_store_ready Σ ok X joint_context (meet_store C p tb.kind).equations (both_typed Σ (context_metavariables X) U (given_equations X n C.given) _ (given_are_typed Σ ok O Q tp.clause_typed joint_context C.given given_term fg U half solved) place_list)
