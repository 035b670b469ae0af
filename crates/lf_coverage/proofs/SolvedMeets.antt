-- A typed unifier of the store of a typed case and a constant's clause is a typed instance that both have in common.
use Rattle.std.proofs.Common.{◌≡◌, ℕ, zero, suc, ◌+◌, ◌⊎◌, List, [], ◌∷◌, length, inl, inr, refl, sym, ap, ap₂, ◌∙◌, subst}
use Rattle.std.specs.Prelude.{Bool, true, false, Option, Some, None}
use Rattle.lf.specs.Syntax.{constant, Term, Spine, root, nil, app, LfType, Kind, kind_pi, star, Skeleton, base, arrow, skeleton, kind_skeleton, rename, rename_spine, rename_type}
use Rattle.lf.specs.Substitution.{Image, put, single, substitute, substitute_spine, substitute_type, substitute_image, after, reduce}
use Rattle.lf.specs.SkeletonTyping.{SkeletonAt, TermSkeleton, SpineSkeleton, RenamingBySkeletons}
use Rattle.lf.specs.Skeletons.{constant_skeletons, context_skeletons}
use Rattle.lf.specs.AtOnce.{shift_by, lift_renaming_by}
use Rattle.lf.specs.Typing.{Signature, TypeAt, HasType, ImageHasType, IsContext, IsSignature, IsTypedSubstitution, instantiate_kind}
use Rattle.lf.specs.Variables.{target_arguments, binders, onto, under, everything}
use Rattle.lf.specs.Subordination.{Block, AreTypedBlocks}
use Rattle.lf.specs.Worlds.{lift_over}
use Rattle.lf.proofs.Closed.{Agree, agree_type}
use Rattle.lf.proofs.Partial.{uses_all, uses_type_all}
use Rattle.lf.proofs.Renaming.{substitute_renamed}
use Rattle.lf.proofs.SkeletonTyping.{renaming_keeps_skeletons}
use Rattle.lf.proofs.ToSkeletons.{variable_has_skeleton, skeleton_has_variable, kind_skeleton_substituted, kind_spine_has_skeleton, type_by_skeletons}
use Rattle.lf.proofs.TypeLaws.{skeleton_renamed, skeleton_substituted, substitute_renamed_type}
use Rattle.lf.proofs.Weakening.{declared_is_type}
use Rattle.lf_unification.specs.Filling.{fill, fill_type}
use Rattle.lf_unification.specs.OpenTyping.{ValueHasType, skeletons_of, under_locals}
use Rattle.lf_unification.specs.PartialInstance.{PartialInstance}
use Rattle.lf_unification.specs.Solving.{Solved}
use Rattle.lf_unification.specs.Unifiers.{Solution, SolvesAll, Store}
use Rattle.lf_unification.proofs.OpenSound.{PartialInstance-of}
use Rattle.lf_unification.proofs.Solving.{solved_unifier}
use Rattle.lf_unification.proofs.RigidSteps.{solves_rest}
use Rattle.lf_checks.specs.Clause.{Clause, scope}
use Rattle.lf_checks.specs.Ground.{UsesGoal}
use Rattle.lf_checks.specs.Marks.{SamePlaces, UsesPlaces}
use Rattle.lf_checks.specs.Worlded.{IsTerm}
use Rattle.lf_cases.specs.Case.{Item, Case, items_context, HasArguments, covered_places}
use Rattle.lf_cases.specs.Pattern.{Origin, of_constant, of_entry, Pattern, given_at, HasGiven}
use Rattle.lf_cases.specs.OutputGoal.{free_variables, renumber}
use Rattle.lf_cases.specs.Missing.{IsTypedInstance, StandsAmong, CommonInstance}
use Rattle.lf_cases.specs.Split.{HasNoBlockVariable}
use Rattle.lf_cases.proofs.BlockEntries.{onto_onto}
use Rattle.lf_cases.proofs.OutputItems.{length_instance, length_renumber, lift_after, lift_renumber}
use Rattle.lf_cases.proofs.Raised.{rename_identity}
use Rattle.lf_totality.proofs.GoalHolds.{arguments_under}
use Rattle.lf_coverage.specs.Heads.{HaveSkeletons}
use Rattle.lf_coverage.specs.Leaf.{IsTypedPattern}
use Rattle.lf_coverage.specs.MeetStore.{open_arguments, place_equations, given_equations, IsConstants, meet_store}
use Rattle.lf_coverage.specs.SplitStore.{open_term, open_spine, open_type, open_locals, open_some, type_in, context_metavariables, answer_image}
use Rattle.lf_coverage.specs.TypedCase.{TypedArguments, IsTypedBeside, given_values}
use Rattle.lf_coverage.proofs.Forms.{far_type, near_type}
use Rattle.lf_coverage.proofs.GivenEquations.{far_back}
use Rattle.lf_coverage.proofs.GivenValues.{StandsForItself, StandsForGiven, given_cases, far_renames, local_renames}
use Rattle.lf_coverage.proofs.MeetReady.{joint_context, arguments_fit, agrees}
use Rattle.lf_coverage.proofs.Meeting.{open_length, under_same}
use Rattle.lf_coverage.proofs.OpenSkeletons.{filled_values, filled_value, filled_term, filled_type}
use Rattle.lf_coverage.proofs.SolvedCase.{free_typed, free_context_is, typed_instance}
use Rattle.lf_coverage.proofs.StoreSolution.{looked_up, found_type}
use Rattle.lf_coverage.proofs.Transfer.{same_in, same_over}
use Rattle.lf_coverage.proofs.Parts.{some_same, second_same, no_arrow}

-- what stands for a variable of the clause: its metavariable's value, where there is one
abbrev clause_value : (ℕ → Image) → Skeleton → Option Term → Option Term → Image
clause_value σ a (Some N) M = put a N
clause_value σ a None (Some M) = put a (substitute reduce σ M)
clause_value σ a None None = put a (root (constant zero) nil)

is_term_value : (σ : ℕ → Image) (a : Skeleton) (x y : Option Term) → IsTerm (clause_value σ a x y)
is_term_value σ a (Some N) M = tt
is_term_value σ a None (Some M) = tt
is_term_value σ a None None = tt

pub uses_places_all : (U : ℕ → Bool) → ((i : ℕ) → U i ≡ true) → (b : List Bool) (S : Spine) → UsesPlaces U b S
uses_places_all U h [] S = tt
uses_places_all U h (x ∷ b) nil = tt
uses_places_all U h (true ∷ b) (app M S) = (uses_all U M h, uses_places_all U h b S)
uses_places_all U h (false ∷ b) (app M S) = uses_places_all U h b S

pub uses_goal_all : (U : ℕ → Bool) → ((i : ℕ) → U i ≡ true) → (b : List Bool) (A : LfType) → UsesGoal U b A
uses_goal_all U h b (Rattle.lf.specs.Syntax.pi A B) = (uses_type_all U A h, uses_goal_all (under U) (all_under U h) b B)
  where
    all_under : (U : ℕ → Bool) → ((i : ℕ) → U i ≡ true) → (i : ℕ) → under U i ≡ true
    all_under U h zero = refl
    all_under U h (suc i) = h i
uses_goal_all U h b (Rattle.lf.specs.Syntax.atom a S) = uses_places_all U h b S

pub nothing_outside : (Σ : Signature) {c : Clause} (o : Origin c) → IsConstants o → (b : Bool) (J I : List Item) (σ : ℕ → Image) (t : IsTypedInstance Σ J I σ) (τ : ℕ → Image) → StandsAmong Σ o b J I σ t τ
nothing_outside Σ (of_constant U) i b J I σ t τ = tt
nothing_outside Σ (of_entry B later E es e) i b J I σ t τ = absurd i

module _ (Σ : Signature) (ok : IsSignature Σ) (W : List Block) (typed : AreTypedBlocks Σ W) (C : Case) (nc : HasNoBlockVariable C.items) (p : Pattern) (tp : IsTypedPattern Σ p) (i : IsConstants p.origin) (tb : IsTypedBeside Σ W C p) (F : List LfType) (β : ℕ → Option Term) (sol : Solution Σ [] (meet_store C p tb.kind) F β) where
  abbrev O : List LfType
  O = items_context C.items

  abbrev Q : List LfType
  Q = scope p.clause

  abbrev X : List LfType
  X = onto (items_context C.items) (scope p.clause)

  abbrev n : ℕ
  n = length (items_context C.items)

  abbrev D : List LfType
  D = binders [] p.type

  abbrev Ψ : ℕ → Option LfType
  Ψ = context_metavariables (onto (items_context C.items) (scope p.clause))

  w : PartialInstance Σ [] Ψ (λ m. ⊥) F β
  w = PartialInstance-of Σ ok [] Ψ (λ m. ⊥) F β sol.0

  abbrev σ : ℕ → Image
  σ = filled_values Σ (onto (items_context C.items) (scope p.clause)) F β w

  cx : IsContext Σ X
  cx = joint_context Σ ok W typed C p tp tb

  abbrev τ : ℕ → Image
  τ j = clause_value σ (skeletons_of Ψ (j + length (items_context C.items))) (β (j + length (items_context C.items))) (given_at C.given j)

  -- the value of each variable is typed
  value_typed : (j : ℕ) (A : LfType) → TypeAt X j A → (N : Term) × (σ j ≡ put (skeleton A) N) × HasType Σ F N (substitute_type reduce σ A)
  value_typed j A k =
      let (N, b, q, m) = filled_value Σ X F β w j A k in
      (N, q, subst (HasType Σ F N) (filled_type Σ X F β w [] A (type_by_skeletons Σ X A (declared_is_type Σ ok X j A cx k))) (by (Ψ j) (β j) (ap open_some (looked_up X j A k)) b (sol.0.typed j)))
    where
      by : {N : Term} (y : Option LfType) (z : Option Term) → y ≡ Some (open_type zero A) → z ≡ Some N → ValueHasType Σ F (skeletons_of Ψ) β y z → HasType Σ F N (fill_type (skeletons_of Ψ) β (open_type zero A))
      by None z e q v = absurd cc
      by (Some Y) None e q v = absurd v
      by (Some Y) (Some M) e q v = subst (λ P. HasType Σ F P (fill_type (skeletons_of Ψ) β (open_type zero A))) (some_same q) (subst (λ Z. HasType Σ F M (fill_type (skeletons_of Ψ) β Z)) (some_same e) v)

  -- the clause's variables have those of their metavariables
  moved : Agree Q τ (λ j. σ (j + n))
  moved j A k = let (N, b, q, m) = filled_value Σ X F β w (j + n) (rename_type (shift_by n) A) (far_type O Q j A k) in ap (λ y. clause_value σ (skeletons_of Ψ (j + n)) y (given_at C.given j)) b ∙ sym (ap (answer_image (skeletons_of Ψ (j + n))) b)

  clause_typed : IsTypedSubstitution Σ Q F τ
  clause_typed j A k =
      let (N, q, m) = value_typed (j + n) (rename_type (shift_by n) A) (far_type O Q j A k) in
      let e : substitute_type reduce σ (rename_type (shift_by n) A) ≡ substitute_type reduce τ A = substitute_renamed_type reduce σ (shift_by n) A ∙ sym (agree_type Σ reduce Q τ (λ l. σ (l + n)) A moved (declared_is_type Σ ok Q j A tp.clause_typed k)) in
      subst (λ x. ImageHasType Σ F x (substitute_type reduce τ A)) (sym (moved j A k ∙ q)) (skeleton_substituted reduce τ A ∙ sym (skeleton_renamed (shift_by n) A), subst (HasType Σ F N) e m)

  case_typed : IsTypedInstance Σ (free_variables F) C.items σ
  case_typed = typed_instance Σ (free_variables F) C.items nc σ (λ j A k. let (N, q, m) = value_typed j A (near_type O Q j A k) in (N, q, subst (λ G. HasType Σ G N (substitute_type reduce σ A)) (sym (free_context_is F)) m))

  -- the given terms
  given : HasGiven σ C.given τ
  given j M e = by (type_in X (j + n)) refl (β (j + n)) refl (sol.0.typed (j + n))
    where
      inside : (A : LfType) → TypeAt X (j + n) A → (a : Skeleton) × (τ j ≡ put a (substitute reduce σ M))
      inside A k =
          let (B, b, r) = far_back O Q j A k in
          found B b (given_cases Q C.given n j)
        where
          found : (B : LfType) → TypeAt Q j B → StandsForItself Q C.given n j ⊎ StandsForGiven Q C.given n j → (a : Skeleton) × (τ j ≡ put a (substitute reduce σ M))
          found B b (inl (q, none)) = absurd (none B M b e)
          found B b (inr (E, P, x, q, r)) = (skeleton E, moved j B b ∙ sym (agrees Σ ok W typed C p tp tb β (F, w, sol.1) j) ∙ ap (substitute_image σ) r ∙ ap (λ N. put (skeleton E) (substitute reduce σ N)) (some_same (sym q ∙ e)))

      by : (y : Option LfType) → type_in X (j + n) ≡ y → (z : Option Term) → β (j + n) ≡ z → ValueHasType Σ F (skeletons_of Ψ) β (open_some y) z → (a : Skeleton) × (τ j ≡ put a (substitute reduce σ M))
      by None q (Some N) r v = absurd v
      by None q None r v = (skeletons_of Ψ (j + n), ap₂ (λ y z. clause_value σ (skeletons_of Ψ (j + n)) y z) r e)
      by (Some A) q z r v = inside A (found_type X (j + n) A q)

  -- the arguments
  near_skeleton : (L : List LfType) (M : Term) (t : Skeleton) → TermSkeleton (constant_skeletons Σ) (context_skeletons (onto L O)) M t → TermSkeleton (constant_skeletons Σ) (context_skeletons (onto L X)) M t
  near_skeleton L M t m = subst (λ N. TermSkeleton (constant_skeletons Σ) (context_skeletons (onto L X)) N t) (rename_identity M) (renaming_keeps_skeletons (constant_skeletons Σ) (context_skeletons (onto L O)) (context_skeletons (onto L X)) (λ j. j) M t near m)
    where
      near : (j : ℕ) (u : Skeleton) → SkeletonAt (context_skeletons (onto L O)) j u → SkeletonAt (context_skeletons (onto L X)) j u
      near j u k = let (A, a, e) = skeleton_has_variable (onto L O) j u k in subst (SkeletonAt (context_skeletons (onto L X)) j) e (variable_has_skeleton (onto L X) j A (subst (λ G. TypeAt G j A) (onto_onto L O Q) (near_type (onto L O) Q j A a)))

  pattern_renames : RenamingBySkeletons (context_skeletons (onto D Q)) (context_skeletons (onto (renumber (shift_by n) D) X)) (lift_renaming_by (length D) (shift_by n))
  pattern_renames j u k = let (A, a, e) = skeleton_has_variable (onto D Q) j u k in subst (SkeletonAt (context_skeletons (onto (renumber (shift_by n) D) X)) (lift_renaming_by (length D) (shift_by n) j)) (skeleton_renamed (lift_renaming_by (length D) (shift_by n)) A ∙ e) (variable_has_skeleton (onto (renumber (shift_by n) D) X) (lift_renaming_by (length D) (shift_by n) j) (rename_type (lift_renaming_by (length D) (shift_by n)) A) (local_renames Σ ok D Q X (shift_by n) (far_renames O Q) j A a))

  local_length : length C.local ≡ length D
  local_length = ap length tb.local ∙ length_instance D (given_values C p)

  pattern_term : (R : Term) (t : Skeleton) → TermSkeleton (constant_skeletons Σ) (context_skeletons (onto D Q)) R t → fill (skeletons_of Ψ) (under_locals (open_locals (renumber (shift_by n) D)) β) (open_term (length D) (rename (lift_renaming_by (length D) (shift_by n)) R)) ≡ substitute reduce (lift_over D τ) R
  pattern_term R t k =
      let L1 : List LfType = renumber (shift_by n) D in
      let ρ : ℕ → ℕ = lift_renaming_by (length D) (shift_by n) in
      ap₂ (λ f l. fill (skeletons_of Ψ) f (open_term l (rename ρ R))) (under_same β (open_locals L1) L1 (open_length L1)) (sym (length_renumber (shift_by n) D))
      ∙ filled_term Σ X F β w L1 (rename ρ R) t (renaming_keeps_skeletons (constant_skeletons Σ) (context_skeletons (onto D Q)) (context_skeletons (onto L1 X)) ρ R t pattern_renames k)
      ∙ ap (λ f. substitute reduce f (rename ρ R)) (lift_renumber (shift_by n) D σ)
      ∙ substitute_renamed reduce (lift_over D σ) ρ R
      ∙ ap (λ f. substitute reduce f R) (lift_after D (shift_by n) σ)
      ∙ sym (same_in (constant_skeletons Σ) (context_skeletons (onto D Q)) (lift_over D τ) (lift_over D (λ j. σ (j + n))) (same_over D Q τ (λ j. σ (j + n)) (λ j u z. let (A, a, e) = skeleton_has_variable Q j u z in moved j A a)) R t k)

  case_term : (M : Term) (t : Skeleton) → TermSkeleton (constant_skeletons Σ) (context_skeletons (onto C.local O)) M t → fill (skeletons_of Ψ) (under_locals (open_locals (renumber (shift_by n) D)) β) (open_term (length D) M) ≡ substitute reduce (lift_over C.local σ) M
  case_term M t k =
      let L1 : List LfType = renumber (shift_by n) D in
      ap₂ (λ f l. fill (skeletons_of Ψ) f (open_term l M)) (under_same β (open_locals L1) C.local (open_length L1 ∙ length_renumber (shift_by n) D ∙ sym local_length)) (sym local_length)
      ∙ filled_term Σ X F β w C.local M t (near_skeleton C.local M t k)

  arguments_held : (G : List LfType) (f : ℕ → Image) (Ms : List (Option Term)) (S : Spine) (KL K : Kind) → kind_skeleton 0 KL ≡ kind_skeleton 0 K → (t : Skeleton) → SpineSkeleton (constant_skeletons Σ) (context_skeletons (onto D Q)) S t (base 0) → HaveSkeletons (constant_skeletons Σ) (context_skeletons (onto C.local O)) Ms → TypedArguments Σ G Ms (substitute_spine reduce f S) KL → SolvesAll (skeletons_of Ψ) β (place_equations (open_locals (renumber (shift_by n) D)) (open_arguments (length D) Ms) (open_spine (length D) (rename_spine (lift_renaming_by (length D) (shift_by n)) S)) K) → HasArguments (lift_over C.local σ) Ms (substitute_spine reduce (lift_over D τ) S) × SamePlaces (covered_places Ms) (substitute_spine reduce (lift_over D τ) S) (substitute_spine reduce (lift_over D τ) S)
  arguments_held G f [] nil KL K ks t ss hs a h = (tt, tt)
  arguments_held G f [] (app R S) KL K ks t ss hs a h = absurd a
  arguments_held G f (Some M ∷ Ms) nil KL K ks t ss hs a h = absurd a
  arguments_held G f (None ∷ Ms) nil KL K ks t ss hs a h = absurd a
  arguments_held G f (Some M ∷ Ms) (app R S) star K ks t ss hs a h = absurd a
  arguments_held G f (None ∷ Ms) (app R S) star K ks t ss hs a h = absurd a
  arguments_held G f (Some M ∷ Ms) (app R S) (kind_pi AL KL) star ks t ss hs a h = absurd (no_arrow ks)
  arguments_held G f (None ∷ Ms) (app R S) (kind_pi AL KL) star ks t ss hs a h = absurd (no_arrow ks)
  arguments_held G f (Some M ∷ Ms) (app R S) (kind_pi AL KL) (kind_pi A K) ks (base x) ss hs a h = absurd ss
  arguments_held G f (None ∷ Ms) (app R S) (kind_pi AL KL) (kind_pi A K) ks (base x) ss hs a h = absurd ss
  arguments_held G f (Some M ∷ Ms) (app R S) (kind_pi AL KL) (kind_pi A K) ks (arrow x y) (r, ss) ((z, m), hs) (t, a) (e, h) =
      let rest = arguments_held G f Ms S (instantiate_kind AL M KL) (instantiate_kind A (open_term (length D) (rename (lift_renaming_by (length D) (shift_by n)) R)) K) (kind_skeleton_substituted 0 reduce (single (skeleton AL) M) KL ∙ second_same ks ∙ sym (kind_skeleton_substituted 0 reduce (single (skeleton A) (open_term (length D) (rename (lift_renaming_by (length D) (shift_by n)) R))) K)) y ss hs a h in
      ((sym (pattern_term R x r) ∙ sym e ∙ case_term M z m, rest.0), (refl, rest.1))
  arguments_held G f (None ∷ Ms) (app R S) (kind_pi AL KL) (kind_pi A K) ks (arrow x y) (r, ss) hs a h =
      let rest = arguments_held G f Ms S (instantiate_kind AL (substitute reduce f R) KL) (instantiate_kind A (open_term (length D) (rename (lift_renaming_by (length D) (shift_by n)) R)) K) (kind_skeleton_substituted 0 reduce (single (skeleton AL) (substitute reduce f R)) KL ∙ second_same ks ∙ sym (kind_skeleton_substituted 0 reduce (single (skeleton A) (open_term (length D) (rename (lift_renaming_by (length D) (shift_by n)) R))) K)) y ss hs a h in
      (rest.0, rest.1)

  -- The lemma
  pub meets : CommonInstance Σ W C p
  meets =
      let S : Spine = target_arguments p.type in
      let b : List Bool = covered_places C.arguments in
      let T : Spine = substitute_spine reduce (lift_over D τ) S in
      let held = arguments_held (onto C.local X) (lift_over D (given_values C p)) C.arguments S tb.kind tb.kind refl (kind_skeleton 0 tb.kind) (kind_spine_has_skeleton Σ 0 (onto D Q) S tb.kind (arguments_fit Σ ok W typed C p tp tb)) tb.by_skeletons.arguments tb.arguments (solves_rest (skeletons_of Ψ) β (given_equations X n C.given) (place_equations (open_locals (renumber (shift_by n) D)) (open_arguments (length D) C.arguments) (open_spine (length D) (rename_spine (lift_renaming_by (length D) (shift_by n)) S)) tb.kind) sol.1.1) in
      record {
        items = free_variables F;
        typed_items = free_typed Σ _ F sol.0.context;
        case_values = σ;
        is_instance = case_typed;
        used = everything;
        clause_values = τ;
        typed_values = record { typed = λ j A k u. subst (λ G. ImageHasType Σ G (τ j) (substitute_type reduce τ A)) (sym (free_context_is F)) (clause_typed j A k); closed = λ j A k u. uses_type_all everything A (λ l. refl) };
        uses = uses_goal_all everything (λ l. refl) b p.type;
        terms = λ j o u. is_term_value σ (skeletons_of Ψ (j + n)) (β (j + n)) (given_at C.given j);
        given = given;
        stands = nothing_outside Σ p.origin i p.at_first (free_variables F) C.items σ case_typed τ;
        tuple = T;
        of_case = held.0;
        of_clause = subst (SamePlaces b T) (sym (arguments_under [] p.type τ)) held.1;
      }

pub solved_meets : (Σ : Signature) (ok : IsSignature Σ) (W : List Block) (typed : AreTypedBlocks Σ W) (C : Case) → HasNoBlockVariable C.items → (p : Pattern) → IsTypedPattern Σ p → IsConstants p.origin → (t : IsTypedBeside Σ W C p) (after : Store) → Solved Σ (meet_store C p t.kind) after → CommonInstance Σ W C p
solved_meets Σ ok W typed C nc p tp i t after s = let (F, β, sol) = solved_unifier Σ ok (meet_store C p t.kind) after s in meets Σ ok W typed C nc p tp i t F β sol
