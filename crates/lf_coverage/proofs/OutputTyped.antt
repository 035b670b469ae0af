-- The goal of outputs is typed.
use Rattle.std.proofs.Common.{◌≡◌, ℕ, zero, suc, ◌+◌, List, [], ◌∷◌, length, refl, sym, ap, ◌∙◌, subst}
use Rattle.std.specs.Prelude.{Bool, true, false, cond, Option, Some, None}
use Rattle.lf.specs.Syntax.{variable, Term, Spine, nil, app, LfType, Kind, pi, atom, kind_pi, star, skeleton, weaken, rename_spine, rename_type, lift_renaming}
use Rattle.lf.specs.Substitution.{keep, substitute_kind, reduce}
use Rattle.lf.specs.SkeletonTyping.{HeadSkeletons, SkeletonAt}
use Rattle.lf.specs.Skeletons.{constant_skeletons, context_skeletons}
use Rattle.lf.specs.AtOnce.{shift_by, lift_renaming_by}
use Rattle.lf.specs.Eta.{eta_long}
use Rattle.lf.specs.Typing.{Signature, TypeAt, SpineFitsKind, IsType, IsKind, IsContext, IsSignature}
use Rattle.lf.specs.Variables.{target, target_arguments, binders, onto, under, nothing, IsTypedRenamingOn}
use Rattle.lf.specs.Subordination.{Block, AreTypedBlocks}
use Rattle.lf.proofs.Closed.{closed_kind_renamed}
use Rattle.lf.proofs.Eta.{eta_expand_has_skeleton}
use Rattle.lf.proofs.ToSkeletons.{typed_has_skeleton, variable_has_skeleton}
use Rattle.lf.proofs.TypeLaws.{skeleton_renamed, renamings_compose_type, substitute_identity_kind}
use Rattle.lf.proofs.Weakening.{declared_is_type}
use Rattle.lf_checks.specs.Clause.{Clause, scope, IsClause, IsSubgoal}
use Rattle.lf_checks.specs.Ground.{UsesGoal}
use Rattle.lf_checks.specs.Marks.{Mark, HasSoundMarks, AreSound, NoneFree, UsesPlaces, input_places, output_places}
use Rattle.lf_cases.specs.Case.{Item, items_context, chosen_count}
use Rattle.lf_cases.specs.Missing.{AreTypedItems}
use Rattle.lf_cases.specs.OutputGoal.{outside_items, outside_number, closed_over, kept_items, kept_terms, renumber, goal_number, goal_masks, output_goal, output_arguments}
use Rattle.lf_cases.specs.Pattern.{Origin, origin}
use Rattle.lf_cases.specs.Split.{HasOneBlockVariable}
use Rattle.lf_cases.proofs.Assemble.{binders_typed, end_typed}
use Rattle.lf_cases.proofs.GroundTypes.{clause_typed}
use Rattle.lf_cases.proofs.OutputItems.{arguments_renumber}
use Rattle.lf_totality.proofs.OutputCases.{goal_within}
use Rattle.lf_totality.proofs.RaisedOutputs.{binders_over}
use Rattle.lf_coverage.specs.Heads.{HaveSkeletons, IsTypedCase}
use Rattle.lf_coverage.specs.OutputLaws.{OutputGoalIsTypedCase}
use Rattle.lf_coverage.specs.TypedCase.{TypedArguments}
use Rattle.lf_coverage.specs.TypedLocal.{HasTypedLocal}
use Rattle.lf_coverage.specs.Matching.{HoldsTypes}
use Rattle.lf_coverage.proofs.GivenValues.{local_context}
use Rattle.lf_coverage.proofs.GoalItems.{goal_keeps, one_outside}
use Rattle.lf_coverage.proofs.InputTyped.{closed_chosen, renamed_type}
use Rattle.lf_coverage.proofs.ItemsContext.{items_are_context}
use Rattle.lf_coverage.proofs.KeptTyped.{keep_set, within_closed, KeptTyped, kept_typed, outside_typed}
use Rattle.lf_coverage.proofs.Meeting.{binders_renumbered}
use Rattle.lf_coverage.proofs.Parts.{some_same}
use Rattle.lf_coverage.proofs.PlacesTyped.{PlacesTyped, places_typed}
use Rattle.lf_coverage.proofs.RaisedTyped.{renumber_twice}
use Rattle.lf_coverage.proofs.Strip.{under_binder}
use mathlib.Core.Path.{fun_ext}

-- typed arguments have skeletons
pub arguments_have : (Σ : Signature) (G : List LfType) (Ms : List (Option Term)) (T : Spine) (K : Kind) → TypedArguments Σ G Ms T K → HaveSkeletons (constant_skeletons Σ) (context_skeletons G) Ms
arguments_have Σ G [] T K h = tt
arguments_have Σ G (Some M ∷ Ms) nil K h = absurd h
arguments_have Σ G (None ∷ Ms) nil K h = absurd h
arguments_have Σ G (Some M ∷ Ms) (app N T) star h = absurd h
arguments_have Σ G (None ∷ Ms) (app N T) star h = absurd h
arguments_have Σ G (Some M ∷ Ms) (app N T) (kind_pi A K) (m, h) = ((skeleton A, typed_has_skeleton Σ G M A m), arguments_have Σ G Ms T _ h)
arguments_have Σ G (None ∷ Ms) (app N T) (kind_pi A K) h = arguments_have Σ G Ms T _ h

-- so have the given terms
pub given_have : (κ : HeadSkeletons) (D O Y : List LfType) (U : ℕ → Bool) (r : ℕ → ℕ) → IsTypedRenamingOn U (onto D O) Y r → HaveSkeletons κ (context_skeletons Y) (kept_terms U D r)
given_have κ [] O Y U r h = tt
given_have κ (A ∷ D) O Y U r h = by (U zero) refl (given_have κ D O Y (λ i. U (suc i)) (λ i. r (suc i)) (λ i X g u. subst (TypeAt Y (r (suc i))) (renamings_compose_type r suc X) (h (suc i) (weaken X) (X, g, refl) u)))
  where
    by : (b : Bool) → U zero ≡ b → HaveSkeletons κ (context_skeletons Y) (kept_terms (λ i. U (suc i)) D (λ i. r (suc i))) → HaveSkeletons κ (context_skeletons Y) (cond (U zero) (Some (eta_long (skeleton A) (variable (r zero)))) None ∷ kept_terms (λ i. U (suc i)) D (λ i. r (suc i)))
    by true e rest =
        let k : SkeletonAt (context_skeletons Y) (r zero) (skeleton A) = subst (SkeletonAt (context_skeletons Y) (r zero)) (skeleton_renamed r (weaken A) ∙ skeleton_renamed suc A) (variable_has_skeleton Y (r zero) (rename_type r (weaken A)) (h zero (weaken A) refl e)) in
        subst (λ b. HaveSkeletons κ (context_skeletons Y) (cond b (Some (eta_long (skeleton A) (variable (r zero)))) None ∷ kept_terms (λ i. U (suc i)) D (λ i. r (suc i)))) (sym e) ((skeleton A, eta_expand_has_skeleton κ (skeleton A) (skeleton A) (context_skeletons Y) (variable (r zero)) nil k refl), rest)
    by false e rest = subst (λ b. HaveSkeletons κ (context_skeletons Y) (cond b (Some (eta_long (skeleton A) (variable (r zero)))) None ∷ kept_terms (λ i. U (suc i)) D (λ i. r (suc i)))) (sym e) rest

module _ (Σ : Signature) (ok : IsSignature Σ) (W : List Block) (typed : AreTypedBlocks Σ W) where
  -- the hypotheses of a subgoal, where ρ takes the variables that it mentions to others of their types
  pub record LocalTyped (C Y : List LfType) (X : List LfType) (ρ : ℕ → ℕ) (b : List Bool) (A : LfType) : Type 0 where
    pub context : IsContext Σ (binders Y (rename_type (lift_renaming_by (length X) ρ) A))
    pub set : ℕ → Bool
    pub renames : IsTypedRenamingOn set (binders C A) (binders Y (rename_type (lift_renaming_by (length X) ρ) A)) (lift_renaming_by (length (binders X A)) ρ)
    pub uses : UsesPlaces set b (target_arguments A)

  local_typed : (A : LfType) (C Y X : List LfType) (ρ : ℕ → ℕ) (b : List Bool) (V : ℕ → Bool) → IsContext Σ C → IsContext Σ Y → IsTypedRenamingOn V C Y (lift_renaming_by (length X) ρ) → HoldsTypes V C → IsType Σ C A → UsesGoal V b A → LocalTyped C Y X ρ b A
  local_typed (pi A B) C Y X ρ b V cc0 cy r cl (a, t) (u, us) =
      let l : ℕ → ℕ = lift_renaming_by (length X) ρ in
      let h = local_typed B (A ∷ C) (rename_type l A ∷ Y) (A ∷ X) ρ b (under V) (cc0, a) (cy, renamed_type Σ ok W typed V C Y l A cc0 cy r cl a u) (under_binder V C Y l A r) (closed_chosen V C A u cl) t us in
      record { context = h.context; set = h.set; renames = h.renames; uses = h.uses }
  local_typed (atom a S) C Y X ρ b V cc0 cy r cl t us = record { context = cy; set = V; renames = r; uses = us }

  -- What is known of the goal of outputs.
  pub record GoalTyped {c : Clause} (below : ℕ → ℕ → Bool) (m : ℕ → List Mark) (o : Origin c) (U : ℕ → Bool) (A : LfType) (K : Kind) : Type 0 where
    pub items : AreTypedItems Σ W (output_goal below m o U A K).items
    pub local : IsContext Σ (onto (output_goal below m o U A K).local (items_context (output_goal below m o U A K).items))
    pub renames : IsTypedRenamingOn (keep_set (binders [] c.type) (closed_over (binders [] c.type) U)) (scope c) (items_context (output_goal below m o U A K).items) (λ i. goal_number o (closed_over (binders [] c.type) U) i + chosen_count (output_places (m (target A))) K)
    pub arguments : TypedArguments Σ (onto (output_goal below m o U A K).local (items_context (output_goal below m o U A K).items)) (output_goal below m o U A K).arguments (rename_spine (lift_renaming_by (length (binders [] A)) (λ i. goal_number o (closed_over (binders [] c.type) U) i + chosen_count (output_places (m (target A))) K)) (target_arguments A)) K

  module _ (below : ℕ → ℕ → Bool) (m : ℕ → List Mark) {c : Clause} (d : IsClause Σ W c) (U : ℕ → Bool) (i : ℕ) (A : LfType) (sub : IsSubgoal c i A) (needs : UsesGoal U (input_places (m (target A))) A) (none : NoneFree (m (target A))) (K : Kind) (sound : AreSound nothing (m (target A)) K) (e : Σ.kinds (target A) ≡ Some K) where
    abbrev o : Origin c
    o = origin d

    abbrev D : List LfType
    D = binders [] c.type

    abbrev V : ℕ → Bool
    V = closed_over (binders [] c.type) U

    abbrev ρ : ℕ → ℕ
    ρ = goal_number (origin d) (closed_over (binders [] c.type) U)

    abbrev I : List Item
    I = kept_items (closed_over (binders [] c.type) U) (binders [] c.type) (outside_number (origin d)) (outside_items (origin d))

    abbrev D0 : List LfType
    D0 = binders [] A

    abbrev ms : List Mark
    ms = m (target A)

    abbrev n : ℕ
    n = chosen_count (output_places (m (target A))) K

    abbrev L : List LfType
    L = renumber (goal_number (origin d) (closed_over (binders [] c.type) U)) (binders [] A)

    abbrev H : Spine
    H = rename_spine (lift_renaming_by (length (binders [] A)) (goal_number (origin d) (closed_over (binders [] c.type) U))) (target_arguments A)

    abbrev ks : List (List Bool)
    ks = goal_masks below m (origin d) (closed_over (binders [] c.type) U) A K

    scope_is : scope c ≡ onto D c.outer
    scope_is = binders_over [] c.type c.outer

    scope_typed : IsContext Σ (scope c)
    scope_typed = let t = clause_typed Σ ok W typed c d in binders_typed Σ ok c.type c.outer t.0 t.1

    type_typed : IsType Σ (scope c) A
    type_typed = declared_is_type Σ ok (scope c) i A scope_typed sub.1

    kept : KeptTyped Σ ok W typed (scope c) (keep_set D V) ρ I
    kept = let t = outside_typed Σ ok W typed d in subst (λ C. KeptTyped Σ ok W typed C (keep_set D V) ρ I) (sym scope_is) (kept_typed Σ ok W typed D c.outer U (outside_number o) (outside_items o) (subst (IsContext Σ) scope_is scope_typed) t.0 t.1)

    items_typed : IsContext Σ (items_context I)
    items_typed = items_are_context Σ ok W typed I kept.items

    local_is : binders (items_context I) (rename_type ρ A) ≡ onto L (items_context I)
    local_is = binders_over [] (rename_type ρ A) (items_context I) ∙ ap (λ X. onto X (items_context I)) (binders_renumbered ρ [] A)

    locals : LocalTyped (scope c) (items_context I) [] ρ (input_places ms) A
    locals = local_typed A (scope c) (items_context I) [] ρ (input_places ms) (keep_set D V) scope_typed items_typed kept.renames kept.closed type_typed (goal_within U (keep_set D V) (input_places ms) A (within_closed D U) needs)

    locals_typed : IsContext Σ (onto L (items_context I))
    locals_typed = subst (IsContext Σ) local_is locals.context

    fits : SpineFitsKind Σ (binders (scope c) A) (target_arguments A) K
    fits = by (end_typed Σ ok A (scope c) type_typed)
      where
        by : IsType Σ (binders (scope c) A) (atom (target A) (target_arguments A)) → SpineFitsKind Σ (binders (scope c) A) (target_arguments A) K
        by (X, q, s) = subst (SpineFitsKind Σ (binders (scope c) A) (target_arguments A)) (some_same (sym q ∙ e)) s

    closed : IsKind Σ [] K
    closed = ok.kinds_ok (target A) K e

    places : PlacesTyped Σ ok W typed ks L n (output_places ms) H K I
    places =
        let same : substitute_kind reduce keep K ≡ K = substitute_identity_kind reduce K in
        subst (λ X. PlacesTyped Σ ok W typed (Rattle.lf_cases.specs.OutputGoal.output_masks below L (output_places ms) H X) L n (output_places ms) H X I) same
        (places_typed Σ ok W typed below n ms nothing [] K (binders (scope c) A) keep (target_arguments A) locals.set (lift_renaming_by (length D0) ρ) L I keep none sound tt closed (λ j X g. absurd g) (subst (SpineFitsKind Σ (binders (scope c) A) (target_arguments A)) (sym same) fits) locals.uses kept.items locals_typed (subst (λ Y. IsTypedRenamingOn locals.set (binders (scope c) A) Y (lift_renaming_by (length D0) ρ)) local_is locals.renames) (λ j X g. absurd g) (λ j v. absurd (no v)) refl)
      where
        no : false ≡ true → ⊥
        no v = cc

    abbrev J : List Item
    J = (output_goal below m (origin d) U A K).items

    abbrev r : ℕ → ℕ
    r i = goal_number (origin d) (closed_over (binders [] c.type) U) i + chosen_count (output_places (m (target A))) K

    moved_twice : renumber (shift_by n) L ≡ renumber r D0
    moved_twice = renumber_twice Σ ok W typed (shift_by n) ρ D0

    lifted_twice : (k : ℕ) → (λ j. lift_renaming_by k (shift_by n) (lift_renaming_by k ρ j)) ≡ lift_renaming_by k r
    lifted_twice zero = refl
    lifted_twice (suc k) = fun_ext (Rattle.lf.proofs.Renaming.up_up (lift_renaming_by k (shift_by n)) (lift_renaming_by k ρ)) ∙ ap lift_renaming (lifted_twice k)

    pub goal_typed : GoalTyped below m (origin d) U A K
    goal_typed = record {
      items = places.items;
      local = subst (λ X. IsContext Σ (onto X (items_context J))) moved_twice (local_context Σ ok L (items_context I) (items_context J) (shift_by n) places.behind locals_typed (items_are_context Σ ok W typed J places.items));
      renames = λ j X g u. subst (TypeAt (items_context J) (r j)) (renamings_compose_type (shift_by n) ρ X) (places.behind (ρ j) (rename_type ρ X) (kept.renames j X g u));
      arguments =
          subst (λ X. TypedArguments Σ (onto X (items_context J)) (output_arguments ks D0 (output_places ms) K) (rename_spine (lift_renaming_by (length D0) r) (target_arguments A)) K) moved_twice
          (subst (λ Ms. TypedArguments Σ (onto (renumber (shift_by n) L) (items_context J)) Ms (rename_spine (lift_renaming_by (length D0) r) (target_arguments A)) K) (arguments_renumber ks ρ D0 (output_places ms) K)
          (subst (λ T. TypedArguments Σ (onto (renumber (shift_by n) L) (items_context J)) (output_arguments ks L (output_places ms) K) T K) spine_is
          (subst (TypedArguments Σ (onto (renumber (shift_by n) L) (items_context J)) (output_arguments ks L (output_places ms) K) (rename_spine (lift_renaming_by (length L) (shift_by n)) H)) (closed_kind_renamed Σ (lift_renaming_by (length L) (shift_by n)) K closed) places.arguments)));
    }
      where
        spine_is : rename_spine (lift_renaming_by (length L) (shift_by n)) H ≡ rename_spine (lift_renaming_by (length D0) r) (target_arguments A)
        spine_is = ap (λ k. rename_spine (lift_renaming_by k (shift_by n)) H) (Rattle.lf_cases.proofs.OutputItems.length_renumber ρ D0) ∙ Rattle.lf.proofs.Renaming.renamings_compose_spine (lift_renaming_by (length D0) (shift_by n)) (lift_renaming_by (length D0) ρ) (target_arguments A) ∙ ap (λ f. rename_spine f (target_arguments A)) (lifted_twice (length D0))

    pub goal_case : IsTypedCase Σ W (output_goal below m (origin d) U A K) × HasTypedLocal Σ (output_goal below m (origin d) U A K)
    goal_case = (
      record {
        items = goal_typed.items;
        given = given_have (constant_skeletons Σ) D c.outer (items_context J) U r (λ j X g u. goal_typed.renames j X (subst (λ C. TypeAt C j X) (sym scope_is) g) (within_closed D U j u));
        arguments = arguments_have Σ (onto (output_goal below m (origin d) U A K).local (items_context J)) (output_goal below m (origin d) U A K).arguments (rename_spine (lift_renaming_by (length D0) r) (target_arguments A)) K goal_typed.arguments;
      },
      goal_typed.local,
    )

-- the marks of the kind that is known
pub sound_for : (Σ : Signature) (f : ℕ) (m : List Mark) (K : Kind) → Σ.kinds f ≡ Some K → HasSoundMarks Σ f m → AreSound nothing m K
sound_for Σ f m K e (X, q, s) = subst (AreSound nothing m) (some_same (sym q ∙ e)) s

pub output_goal_is_typed_case : OutputGoalIsTypedCase
output_goal_is_typed_case Σ ok W typed below m c d U i A sub needs sound none K e =
    let (t, l) = goal_case Σ ok W typed below m d U i A sub needs none K (sound_for Σ (target A) (m (target A)) K e sound) e in
    (t, l, goal_keeps HasOneBlockVariable (λ B I h. h) below m (origin d) U A K (one_outside d))
