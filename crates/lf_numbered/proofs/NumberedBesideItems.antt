-- The goal of the outputs of any clause's subgoal is, over its items, typed beside it, where also what stands outside the clause is given.
use Rattle.std.proofs.Common.{◌≡◌, ℕ, zero, suc, ◌+◌, List, [], ◌∷◌, length, inr, refl, sym, ap, ◌∙◌, subst}
use Rattle.std.specs.Prelude.{Bool, true, false, cond, Some, None}
use Rattle.lf.specs.Syntax.{variable, Term, nil, LfType, Kind, Skeleton, base, skeleton, rename_spine, rename_type}
use Rattle.lf.specs.Substitution.{Image, put, substitute_type, reduce}
use Rattle.lf.specs.SkeletonTyping.{HeadSkeletons, SkeletonAt, ImageSkeleton, SubstitutionBySkeletons}
use Rattle.lf.specs.Skeletons.{constant_skeletons, family_skeletons, context_skeletons}
use Rattle.lf.specs.AtOnce.{lift_renaming_by, shift_by}
use Rattle.lf.specs.Eta.{eta_long}
use Rattle.lf.specs.Typing.{Signature, TypeAt, HasType, IsType, IsContext, IsSignature, ImageHasType}
use Rattle.lf.specs.Variables.{target, target_arguments, binders, onto, nothing, UsesType, Values, IsTypedRenamingOn}
use Rattle.lf.specs.Subordination.{Block, AreTypedBlocks}
use Rattle.lf.specs.Worlds.{lift_over}
use Rattle.lf.proofs.Eta.{eta_expand_has_skeleton}
use Rattle.lf.proofs.EtaTyping.{eta_long_has_type}
use Rattle.lf.proofs.ToSkeletons.{type_by_skeletons, skeleton_has_variable, variable_has_skeleton}
use Rattle.lf.proofs.TypeLaws.{skeleton_renamed, skeleton_substituted}
use Rattle.lf.proofs.Weakening.{declared_is_type}
use Rattle.lf_checks.specs.Clause.{Clause, scope, IsClause, IsSubgoal}
use Rattle.lf_checks.specs.Ground.{UsesGoal}
use Rattle.lf_checks.specs.Marks.{Mark, AreSound, NoneFree, input_places, output_places}
use Rattle.lf_cases.specs.Candidates.{given_images}
use Rattle.lf_cases.specs.Case.{Case, items_context, chosen_count}
use Rattle.lf_cases.specs.OutputGoal.{closed_over, goal_masks, goal_number, kept_terms, output_goal}
use Rattle.lf_cases.specs.Pattern.{is_given, is_there, origin, subgoal_pattern}
use Rattle.lf_cases.proofs.Assemble.{binders_typed}
use Rattle.lf_cases.proofs.BlockEntries.{onto_onto}
use Rattle.lf_cases.proofs.GroundTypes.{clause_typed}
use Rattle.lf_coverage.specs.TypedCase.{TypedArguments, IsTypedBeside}
use Rattle.lf_coverage.proofs.Forms.{far_type, near_type}
use Rattle.lf_coverage.proofs.GivenImages.{type_in, image_of, image_at, is_given_at}
use Rattle.lf_coverage.proofs.InputTyped.{Likes, eta_on_type}
use Rattle.lf_coverage.proofs.ItemsContext.{items_are_context}
use Rattle.lf_coverage.proofs.KeptTyped.{within_closed}
use Rattle.lf_coverage.proofs.OutputBeside.{LocalSame, arguments_near, arguments_same, local_same}
use Rattle.lf_coverage.proofs.OutputTyped.{GoalTyped, arguments_have, given_have, goal_typed}
use Rattle.lf_coverage.proofs.SomeHead.{onto_nothing}

-- a term is given for what is kept alone
kept_only : (D : List LfType) (U : ℕ → Bool) (r : ℕ → ℕ) (j : ℕ) → is_given (kept_terms U D r) j ≡ true → U j ≡ true
kept_only [] U r j e = absurd cc
kept_only (A ∷ D) U r zero e = there (U zero) e
  where
    there : (b : Bool) → is_there (cond b (Some (eta_long (skeleton A) (variable (r zero)))) None) ≡ true → b ≡ true
    there true h = refl
    there false h = absurd cc
kept_only (A ∷ D) U r (suc j) e = kept_only D (λ i. U (suc i)) (λ i. r (suc i)) j e

module _ (Σ : Signature) (ok : IsSignature Σ) (W : List Block) (typed : AreTypedBlocks Σ W) (below : ℕ → ℕ → Bool) (m : ℕ → List Mark) {c : Clause} (d : IsClause Σ W c) (U : ℕ → Bool) (closed : (j : ℕ) (X : LfType) → TypeAt (scope c) j X → U j ≡ true → UsesType U X) (i : ℕ) (A : LfType) (sub : IsSubgoal c i A) (needs : UsesGoal U (input_places (m (target A))) A) (none : NoneFree (m (target A))) (K : Kind) (sound : AreSound nothing (m (target A)) K) (e : Σ.kinds (target A) ≡ Some K) where
  abbrev Q : List LfType
  Q = scope c

  abbrev D0 : List LfType
  D0 = binders [] A

  abbrev C : Case
  C = output_goal below m (origin d) U A K

  abbrev Y : List LfType
  Y = items_context (output_goal below m (origin d) U A K).items

  abbrev N : ℕ
  N = length (items_context (output_goal below m (origin d) U A K).items)

  abbrev Z : List LfType
  Z = onto (items_context (output_goal below m (origin d) U A K).items) (scope c)

  -- where a variable of the scope is among the items
  abbrev pub moved_to : ℕ → ℕ
  moved_to j = goal_number (origin d) (closed_over (binders [] c.type) U) j + chosen_count (output_places (m (target A))) K

  -- the goal, in which what is ground is given, also outside the clause
  abbrev pub all_given : Case
  all_given = record { items = (output_goal below m (origin d) U A K).items; given = kept_terms U (scope c) moved_to; local = (output_goal below m (origin d) U A K).local; family = target A; arguments = (output_goal below m (origin d) U A K).arguments }

  abbrev g : ℕ → Image
  g = given_images (scope c) (kept_terms U (scope c) moved_to) (length (items_context (output_goal below m (origin d) U A K).items))

  abbrev κ : HeadSkeletons
  κ = constant_skeletons Σ

  pub known : GoalTyped Σ ok W typed below m (origin d) U A K
  known = goal_typed Σ ok W typed below m d U i A sub needs none K sound e

  pub scope_typed : IsContext Σ (scope c)
  scope_typed = let t = clause_typed Σ ok W typed c d in binders_typed Σ ok c.type c.outer t.0 t.1

  items_typed : IsContext Σ Y
  items_typed = items_are_context Σ ok W typed C.items known.items

  pub renames : IsTypedRenamingOn U (scope c) (items_context (output_goal below m (origin d) U A K).items) moved_to
  renames j X h u = known.renames j X h (within_closed (binders [] c.type) U j u)

  image_is : (j : ℕ) (X : LfType) → TypeAt Q j X → g j ≡ image_of (U j) X (moved_to j) (j + N)
  image_is j X h = image_at Q U moved_to N j X h

  image_given : (j : ℕ) (X : LfType) → TypeAt Q j X → U j ≡ true → g j ≡ put (skeleton X) (eta_long (skeleton X) (variable (moved_to j)))
  image_given j X h u = image_is j X h ∙ ap (λ b. image_of b X (moved_to j) (j + N)) u

  image_fits : (b : Bool) (j : ℕ) (X : LfType) (t : Skeleton) → TypeAt Q j X → skeleton X ≡ t → U j ≡ b → ImageSkeleton κ (context_skeletons Z) (image_of b X (moved_to j) (j + N)) t
  image_fits true j X t h q u =
      let at : SkeletonAt (context_skeletons Z) (moved_to j) (skeleton X) = subst (SkeletonAt (context_skeletons Z) (moved_to j)) (skeleton_renamed moved_to X) (variable_has_skeleton Z (moved_to j) (rename_type moved_to X) (near_type Y Q (moved_to j) (rename_type moved_to X) (renames j X h u))) in
      (q, eta_expand_has_skeleton κ (skeleton X) (skeleton X) (context_skeletons Z) (variable (moved_to j)) nil at refl)
  image_fits false j X t h q u = subst (SkeletonAt (context_skeletons Z) (j + N)) (skeleton_renamed (shift_by N) X ∙ q) (variable_has_skeleton Z (j + N) (rename_type (shift_by N) X) (far_type Y Q j X h))

  fits : SubstitutionBySkeletons κ (context_skeletons Q) (context_skeletons Z) g
  fits j t h = let (X, at, q) = skeleton_has_variable Q j t h in subst (λ x. ImageSkeleton κ (context_skeletons Z) x t) (sym (image_is j X at)) (image_fits (U j) j X t at q refl)

  likes : Likes U (context_skeletons Q) g moved_to
  likes j t h u = let (X, at, q) = skeleton_has_variable Q j t h in inr (image_given j X at u ∙ ap (λ a. put a (eta_long a (variable (moved_to j)))) q)

  put_in_is : (X : LfType) → IsType Σ Q X → UsesType U X → substitute_type reduce g X ≡ rename_type moved_to X
  put_in_is X t u = eta_on_type κ (family_skeletons Σ) U (context_skeletons Q) (context_skeletons Z) g moved_to fits likes X (type_by_skeletons Σ Q X t) u

  given_values_typed : Values Σ (is_given (kept_terms U Q moved_to)) Q Y g
  given_values_typed = record {
    typed = λ j X h u. each j X h (kept_only Q U moved_to j u);
    closed = λ j X h u. type_in (family_skeletons Σ) κ U (is_given (kept_terms U Q moved_to)) (context_skeletons Q) X (type_by_skeletons Σ Q X (declared_is_type Σ ok Q j X scope_typed h)) (λ l t n w. let (V, at, q) = skeleton_has_variable Q l t n in is_given_at Q U moved_to l V at w) (closed j X h (kept_only Q U moved_to j u));
  }
    where
      each : (j : ℕ) (X : LfType) → TypeAt Q j X → U j ≡ true → ImageHasType Σ Y (g j) (substitute_type reduce g X)
      each j X h u =
          let E : Term = eta_long (skeleton X) (variable (moved_to j)) in
          let q : substitute_type reduce g X ≡ rename_type moved_to X = put_in_is X (declared_is_type Σ ok Q j X scope_typed h) (closed j X h u) in
          let t : HasType Σ Y E (rename_type moved_to X) = subst (λ a. HasType Σ Y (eta_long a (variable (moved_to j))) (rename_type moved_to X)) (skeleton_renamed moved_to X) (eta_long_has_type Σ ok Y (variable (moved_to j)) (rename_type moved_to X) items_typed (renames j X h u)) in
          subst (λ x. ImageHasType Σ Y x (substitute_type reduce g X)) (sym (image_given j X h u)) (skeleton_substituted reduce g X, subst (HasType Σ Y E) (sym q) t)

  type_typed : IsType Σ Q A
  type_typed = declared_is_type Σ ok Q i A scope_typed sub.1

  locals : LocalSame κ g moved_to (input_places (m (target A))) [] A
  locals = local_same κ (family_skeletons Σ) g moved_to (input_places (m (target A))) A [] U (context_skeletons Q) (context_skeletons Z) fits likes (type_by_skeletons Σ Q A type_typed) needs refl

  arguments_typed : TypedArguments Σ (onto C.local Z) C.arguments (Rattle.lf.specs.Substitution.substitute_spine reduce (lift_over D0 g) (target_arguments A)) K
  arguments_typed =
      arguments_same κ locals.set locals.source locals.goal (lift_over D0 g) (lift_renaming_by (length D0) moved_to) locals.fits locals.likes Σ (onto C.local Z) (m (target A)) (goal_masks below m (origin d) (closed_over (binders [] c.type) U) A K) D0 K (target_arguments A) locals.kind (base (target A)) K none locals.uses locals.spine
      (subst (λ X. TypedArguments Σ X C.arguments (rename_spine (lift_renaming_by (length D0) moved_to) (target_arguments A)) K) (onto_onto C.local Y Q) (arguments_near Σ ok W typed (onto C.local Y) Q C.arguments (rename_spine (lift_renaming_by (length D0) moved_to) (target_arguments A)) K known.arguments))

  pub items_beside : IsTypedBeside Σ W all_given (subgoal_pattern c (origin d) A)
  items_beside = record {
    by_skeletons = record {
      items = known.items;
      given = given_have κ Q [] Y U moved_to (λ j X h u. renames j X (subst (λ G. TypeAt G j X) (onto_nothing Q) h) u);
      arguments = arguments_have Σ (onto C.local Y) C.arguments (rename_spine (lift_renaming_by (length D0) moved_to) (target_arguments A)) K known.arguments;
    };
    local_typed = known.local;
    same_family = refl;
    kind = K;
    of_family = e;
    given = given_values_typed;
    local = locals.same;
    arguments = arguments_typed;
  }
