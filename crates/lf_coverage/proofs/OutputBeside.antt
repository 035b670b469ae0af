-- The goal of the outputs of a constant's subgoal is typed beside it.
use Rattle.std.proofs.Common.{◌≡◌, ℕ, ◌+◌, List, [], ◌∷◌, length, inr, refl, sym, ap, ap₂, ◌∙◌, subst}
use Rattle.std.specs.Prelude.{Bool, true, false, Option, Some, None}
use Rattle.lf.specs.Syntax.{variable, Term, Spine, nil, app, LfType, Kind, pi, atom, kind_pi, star, Skeleton, base, arrow, skeleton, rename, rename_spine, rename_type}
use Rattle.lf.specs.Substitution.{Image, put, substitute, substitute_spine, substitute_type, reduce}
use Rattle.lf.specs.SkeletonTyping.{HeadSkeletons, SkeletonAt, SpineSkeleton, TypeBySkeletons, ImageSkeleton, SubstitutionBySkeletons}
use Rattle.lf.specs.Skeletons.{constant_skeletons, family_skeletons, context_skeletons}
use Rattle.lf.specs.AtOnce.{lift_renaming_by, shift_by}
use Rattle.lf.specs.Eta.{eta_long}
use Rattle.lf.specs.Typing.{Signature, TypeAt, HasType, IsType, IsContext, IsSignature, ImageHasType, instantiate_kind}
use Rattle.lf.specs.Variables.{target, target_arguments, binders, onto, under, UsesType, Values, IsTypedRenamingOn}
use Rattle.lf.specs.Subordination.{Block, AreTypedBlocks}
use Rattle.lf.specs.Worlds.{lift_over, instance}
use Rattle.lf.proofs.Eta.{eta_expand_has_skeleton}
use Rattle.lf.proofs.EtaTyping.{eta_long_has_type}
use Rattle.lf.proofs.SkeletonTyping.{lift_by_skeletons}
use Rattle.lf.proofs.ToSkeletons.{type_by_skeletons, skeleton_has_variable, variable_has_skeleton}
use Rattle.lf.proofs.TypeLaws.{skeleton_renamed, skeleton_substituted}
use Rattle.lf.proofs.Weakening.{declared_is_type}
use Rattle.lf_checks.specs.Clause.{Clause, scope, constant_clause, from_constant, IsSubgoal}
use Rattle.lf_checks.specs.Ground.{UsesGoal}
use Rattle.lf_checks.specs.Marks.{Mark, input, output, free, AreSound, NoneFree, UsesPlaces, input_places, output_places}
use Rattle.lf_cases.specs.Candidates.{given_images}
use Rattle.lf_cases.specs.Case.{Case, items_context, chosen_count}
use Rattle.lf_cases.specs.OutputGoal.{closed_over, renumber, goal_number, goal_masks, output_goal, output_arguments, raised_variable}
use Rattle.lf_cases.specs.Pattern.{is_given, of_constant, subgoal_pattern}
use Rattle.lf_cases.specs.Raised.{first_mask, other_masks}
use Rattle.lf_cases.specs.Split.{HasNoBlockVariable}
use Rattle.lf_cases.proofs.BlockEntries.{onto_onto}
use Rattle.lf_totality.proofs.GoalHolds.{goal_gives}
use Rattle.lf_coverage.specs.OutputLaws.{OutputGoalIsTyped}
use Rattle.lf_coverage.specs.TypedCase.{TypedArguments, IsTypedBeside}
use Rattle.lf_coverage.proofs.Forms.{far_type, near_type}
use Rattle.lf_coverage.proofs.GivenImages.{type_in, image_of, image_at, is_given_at}
use Rattle.lf_coverage.proofs.GivenValues.{near_typed}
use Rattle.lf_coverage.proofs.GoalItems.{goal_keeps}
use Rattle.lf_coverage.proofs.InputTyped.{Likes, likes_under, eta_on, eta_on_type}
use Rattle.lf_coverage.proofs.ItemsContext.{items_are_context}
use Rattle.lf_coverage.proofs.KeptTyped.{within_closed}
use Rattle.lf_coverage.proofs.OutputTyped.{GoalTyped, goal_case, goal_typed, sound_for}

-- Arguments that are typed stay so where at the inputs the same terms stand.
pub arguments_same : (κ : HeadSkeletons) (V : ℕ → Bool) (Γ Δ : List Skeleton) (σ : ℕ → Image) (ρ : ℕ → ℕ) → SubstitutionBySkeletons κ Γ Δ σ → Likes V Γ σ ρ → (Σ : Signature) (G : List LfType) (m : List Mark) (ks : List (List Bool)) (D : List LfType) (L : Kind) (S : Spine) (t u : Skeleton) (K : Kind) → NoneFree m → UsesPlaces V (input_places m) S → SpineSkeleton κ Γ S t u → TypedArguments Σ G (output_arguments ks D (output_places m) L) (rename_spine ρ S) K → TypedArguments Σ G (output_arguments ks D (output_places m) L) (substitute_spine reduce σ S) K
arguments_same κ V Γ Δ σ ρ s l Σ G [] ks D L nil t u K n us k h = h
arguments_same κ V Γ Δ σ ρ s l Σ G [] ks D L (app M S) t u K n us k h = absurd h
arguments_same κ V Γ Δ σ ρ s l Σ G (b ∷ m) ks D star nil t u K n us k h = h
arguments_same κ V Γ Δ σ ρ s l Σ G (b ∷ m) ks D star (app M S) t u K n us k h = absurd h
arguments_same κ V Γ Δ σ ρ s l Σ G (input ∷ m) ks D (kind_pi A L) nil t u K n us k h = absurd h
arguments_same κ V Γ Δ σ ρ s l Σ G (output ∷ m) ks D (kind_pi A L) nil t u K n us k h = absurd h
arguments_same κ V Γ Δ σ ρ s l Σ G (free ∷ m) ks D (kind_pi A L) S t u K n us k h = absurd n
arguments_same κ V Γ Δ σ ρ s l Σ G (input ∷ m) ks D (kind_pi A L) (app M S) t u star n us k h = absurd h
arguments_same κ V Γ Δ σ ρ s l Σ G (output ∷ m) ks D (kind_pi A L) (app M S) t u star n us k h = absurd h
arguments_same κ V Γ Δ σ ρ s l Σ G (input ∷ m) ks D (kind_pi A L) (app M S) (base c) u (kind_pi B K) n us k h = absurd k
arguments_same κ V Γ Δ σ ρ s l Σ G (output ∷ m) ks D (kind_pi A L) (app M S) (base c) u (kind_pi B K) n us k h = absurd k
arguments_same κ V Γ Δ σ ρ s l Σ G (input ∷ m) ks D (kind_pi A L) (app M S) (arrow a t) u (kind_pi B K) n (um, us) (km, k) h =
    let e : substitute reduce σ M ≡ rename ρ M = eta_on κ V Γ Δ σ ρ s l M a km um in
    subst (λ N. TypedArguments Σ G (output_arguments ks D (output_places m) L) (substitute_spine reduce σ S) (instantiate_kind B N K)) (sym e) (arguments_same κ V Γ Δ σ ρ s l Σ G m ks D L S t u (instantiate_kind B (rename ρ M) K) n us k h)
arguments_same κ V Γ Δ σ ρ s l Σ G (output ∷ m) ks D (kind_pi A L) (app M S) (arrow a t) u (kind_pi B K) n us (km, k) (x, h) = (x, arguments_same κ V Γ Δ σ ρ s l Σ G m (other_masks ks) D L S t u (instantiate_kind B (raised_variable (first_mask ks) D A (chosen_count (output_places m) L)) K) n us k h)

-- The hypotheses of a subgoal, and its arguments, under values that do what a renaming does to what they mention.
pub record LocalSame (κ : HeadSkeletons) (g : ℕ → Image) (r : ℕ → ℕ) (b : List Bool) (X : List LfType) (A : LfType) : Type 0 where
  pub same : renumber r (binders X A) ≡ instance (binders X A) g
  pub set : ℕ → Bool
  pub source : List Skeleton
  pub goal : List Skeleton
  pub fits : SubstitutionBySkeletons κ source goal (lift_over (binders X A) g)
  pub likes : Likes set source (lift_over (binders X A) g) (lift_renaming_by (length (binders X A)) r)
  pub kind : Skeleton
  pub spine : SpineSkeleton κ source (target_arguments A) kind (base (target A))
  pub uses : UsesPlaces set b (target_arguments A)

pub local_same : (κ : HeadSkeletons) (φ : ℕ → Option Skeleton) (g : ℕ → Image) (r : ℕ → ℕ) (b : List Bool) (A : LfType) (X : List LfType) (V : ℕ → Bool) (Γ Δ : List Skeleton) → SubstitutionBySkeletons κ Γ Δ (lift_over X g) → Likes V Γ (lift_over X g) (lift_renaming_by (length X) r) → TypeBySkeletons φ κ Γ A → UsesGoal V b A → renumber r X ≡ instance X g → LocalSame κ g r b X A
local_same κ φ g r b (pi B A) X V Γ Δ s l (kb, ka) (ub, ua) e =
    let q : substitute_type reduce (lift_over X g) B ≡ rename_type (lift_renaming_by (length X) r) B = eta_on_type κ φ V Γ Δ (lift_over X g) (lift_renaming_by (length X) r) s l B kb ub in
    let h = local_same κ φ g r b A (B ∷ X) (under V) (skeleton B ∷ Γ) (skeleton B ∷ Δ) (lift_by_skeletons κ (skeleton B) Γ Δ (lift_over X g) s) (likes_under V Γ (skeleton B) (lift_over X g) (lift_renaming_by (length X) r) l) ka ua (ap₂ ◌∷◌ (sym q) e) in
    record { same = h.same; set = h.set; source = h.source; goal = h.goal; fits = h.fits; likes = h.likes; kind = h.kind; spine = h.spine; uses = h.uses }
local_same κ φ g r b (atom a S) X V Γ Δ s l (t, q, k) us e = record { same = e; set = V; source = Γ; goal = Δ; fits = s; likes = l; kind = t; spine = k; uses = us }

module _ (Σ : Signature) (ok : IsSignature Σ) (W : List Block) (typed : AreTypedBlocks Σ W) where
  pub arguments_near : (O Q : List LfType) (Ms : List (Option Term)) (T : Spine) (K : Kind) → TypedArguments Σ O Ms T K → TypedArguments Σ (onto O Q) Ms T K
  arguments_near O Q [] nil star h = h
  arguments_near O Q [] nil (kind_pi A K) h = absurd h
  arguments_near O Q [] (app N T) K h = absurd h
  arguments_near O Q (Some M ∷ Ms) nil K h = absurd h
  arguments_near O Q (None ∷ Ms) nil K h = absurd h
  arguments_near O Q (Some M ∷ Ms) (app N T) star h = absurd h
  arguments_near O Q (None ∷ Ms) (app N T) star h = absurd h
  arguments_near O Q (Some M ∷ Ms) (app N T) (kind_pi A K) (m, h) = (near_typed Σ ok O Q M A m, arguments_near O Q Ms T (instantiate_kind A M K) h)
  arguments_near O Q (None ∷ Ms) (app N T) (kind_pi A K) h = arguments_near O Q Ms T (instantiate_kind A N K) h

  module _ (below : ℕ → ℕ → Bool) (m : ℕ → List Mark) (k : ℕ) (T : LfType) (there : Σ.types k ≡ Some T) (U : ℕ → Bool) (closed : (j : ℕ) (X : LfType) → TypeAt (scope (constant_clause T)) j X → U j ≡ true → UsesType U X) (i : ℕ) (A : LfType) (sub : IsSubgoal (constant_clause T) i A) (needs : UsesGoal U (input_places (m (target A))) A) (none : NoneFree (m (target A))) (K : Kind) (sound : AreSound Rattle.lf.specs.Variables.nothing (m (target A)) K) (e : Σ.kinds (target A) ≡ Some K) where
    abbrev c : Clause
    c = constant_clause T

    abbrev Q : List LfType
    Q = scope (constant_clause T)

    abbrev D : List LfType
    D = binders [] T

    abbrev D0 : List LfType
    D0 = binders [] A

    abbrev C : Case
    C = output_goal below m (of_constant T) U A K

    abbrev Y : List LfType
    Y = items_context (output_goal below m (of_constant T) U A K).items

    abbrev N : ℕ
    N = length (items_context (output_goal below m (of_constant T) U A K).items)

    abbrev Z : List LfType
    Z = onto (items_context (output_goal below m (of_constant T) U A K).items) (scope (constant_clause T))

    abbrev r : ℕ → ℕ
    r j = goal_number (of_constant T) (closed_over (binders [] T) U) j + chosen_count (output_places (m (target A))) K

    abbrev g : ℕ → Image
    g = given_images (scope (constant_clause T)) (output_goal below m (of_constant T) U A K).given (length (items_context (output_goal below m (of_constant T) U A K).items))

    abbrev κ : HeadSkeletons
    κ = constant_skeletons Σ

    known : GoalTyped Σ ok W typed below m (of_constant T) U A K
    known = goal_typed Σ ok W typed below m (from_constant k T there) U i A sub needs none K sound e

    scope_typed : IsContext Σ Q
    scope_typed = Rattle.lf_cases.proofs.Assemble.binders_typed Σ ok T [] tt (ok.types_ok k T there)

    items_typed : IsContext Σ Y
    items_typed = items_are_context Σ ok W typed C.items known.items

    renames : IsTypedRenamingOn U Q Y r
    renames j X h u = known.renames j X h (within_closed D U j u)

    image_is : (j : ℕ) (X : LfType) → TypeAt Q j X → g j ≡ image_of (U j) X (r j) (j + N)
    image_is j X h = image_at Q U r N j X h

    image_given : (j : ℕ) (X : LfType) → TypeAt Q j X → U j ≡ true → g j ≡ put (skeleton X) (eta_long (skeleton X) (variable (r j)))
    image_given j X h u = image_is j X h ∙ ap (λ b. image_of b X (r j) (j + N)) u

    image_fits : (b : Bool) (j : ℕ) (X : LfType) (t : Skeleton) → TypeAt Q j X → skeleton X ≡ t → U j ≡ b → ImageSkeleton κ (context_skeletons Z) (image_of b X (r j) (j + N)) t
    image_fits true j X t h q u =
        let at : SkeletonAt (context_skeletons Z) (r j) (skeleton X) = subst (SkeletonAt (context_skeletons Z) (r j)) (skeleton_renamed r X) (variable_has_skeleton Z (r j) (rename_type r X) (near_type Y Q (r j) (rename_type r X) (renames j X h u))) in
        (q, eta_expand_has_skeleton κ (skeleton X) (skeleton X) (context_skeletons Z) (variable (r j)) nil at refl)
    image_fits false j X t h q u = subst (SkeletonAt (context_skeletons Z) (j + N)) (skeleton_renamed (shift_by N) X ∙ q) (variable_has_skeleton Z (j + N) (rename_type (shift_by N) X) (far_type Y Q j X h))

    fits : SubstitutionBySkeletons κ (context_skeletons Q) (context_skeletons Z) g
    fits j t h = let (X, at, q) = skeleton_has_variable Q j t h in subst (λ x. ImageSkeleton κ (context_skeletons Z) x t) (sym (image_is j X at)) (image_fits (U j) j X t at q refl)

    likes : Likes U (context_skeletons Q) g r
    likes j t h u = let (X, at, q) = skeleton_has_variable Q j t h in inr (image_given j X at u ∙ ap (λ a. put a (eta_long a (variable (r j)))) q)

    put_in_is : (X : LfType) → IsType Σ Q X → UsesType U X → substitute_type reduce g X ≡ rename_type r X
    put_in_is X t u = eta_on_type κ (family_skeletons Σ) U (context_skeletons Q) (context_skeletons Z) g r fits likes X (type_by_skeletons Σ Q X t) u

    given_only : (j : ℕ) → is_given C.given j ≡ true → U j ≡ true
    given_only = (goal_gives below m (of_constant T) U A K).1

    given_values_typed : Values Σ (is_given C.given) Q Y g
    given_values_typed = record {
      typed = λ j X h u. each j X h (given_only j u);
      closed = λ j X h u. type_in (family_skeletons Σ) κ U (is_given C.given) (context_skeletons Q) X (type_by_skeletons Σ Q X (declared_is_type Σ ok Q j X scope_typed h)) (λ l t n w. let (V, at, q) = skeleton_has_variable Q l t n in is_given_at Q U r l V at w) (closed j X h (given_only j u));
    }
      where
        each : (j : ℕ) (X : LfType) → TypeAt Q j X → U j ≡ true → ImageHasType Σ Y (g j) (substitute_type reduce g X)
        each j X h u =
            let E : Term = eta_long (skeleton X) (variable (r j)) in
            let q : substitute_type reduce g X ≡ rename_type r X = put_in_is X (declared_is_type Σ ok Q j X scope_typed h) (closed j X h u) in
            let t : HasType Σ Y E (rename_type r X) = subst (λ a. HasType Σ Y (eta_long a (variable (r j))) (rename_type r X)) (skeleton_renamed r X) (eta_long_has_type Σ ok Y (variable (r j)) (rename_type r X) items_typed (renames j X h u)) in
            subst (λ x. ImageHasType Σ Y x (substitute_type reduce g X)) (sym (image_given j X h u)) (skeleton_substituted reduce g X, subst (HasType Σ Y E) (sym q) t)

    type_typed : IsType Σ Q A
    type_typed = declared_is_type Σ ok Q i A scope_typed sub.1

    locals : LocalSame κ g r (input_places (m (target A))) [] A
    locals = local_same κ (family_skeletons Σ) g r (input_places (m (target A))) A [] U (context_skeletons Q) (context_skeletons Z) fits likes (type_by_skeletons Σ Q A type_typed) needs refl

    beside : IsTypedBeside Σ W C (subgoal_pattern c (of_constant T) A)
    beside =
        let (tc, tl) = goal_case Σ ok W typed below m (from_constant k T there) U i A sub needs none K sound e in
        record {
          by_skeletons = tc;
          local_typed = tl;
          same_family = refl;
          kind = K;
          of_family = e;
          given = given_values_typed;
          local = locals.same;
          arguments =
              arguments_same κ locals.set locals.source locals.goal (lift_over D0 g) (lift_renaming_by (length D0) r) locals.fits locals.likes Σ (onto C.local Z) (m (target A)) (goal_masks below m (of_constant T) (closed_over D U) A K) D0 K (target_arguments A) locals.kind (base (target A)) K none locals.uses locals.spine
              (subst (λ X. TypedArguments Σ X C.arguments (rename_spine (lift_renaming_by (length D0) r) (target_arguments A)) K) (onto_onto C.local Y Q) (arguments_near (onto C.local Y) Q C.arguments (rename_spine (lift_renaming_by (length D0) r) (target_arguments A)) K known.arguments));
        }

pub output_goal_is_typed : OutputGoalIsTyped
output_goal_is_typed Σ ok W typed below m k T there U closed i A sub needs sound none K e = (beside Σ ok W typed below m k T there U closed i A sub needs none K (sound_for Σ (target A) (m (target A)) K e sound) e, goal_keeps HasNoBlockVariable (λ B I h. h) below m (of_constant T) U A K tt)
