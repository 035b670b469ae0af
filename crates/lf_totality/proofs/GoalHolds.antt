-- The goal of output coverage holds each raised tuple of outputs.
use Rattle.std.proofs.Common.{◌≡◌, ℕ, zero, suc, List, [], ◌∷◌, ◌+◌, length, refl, sym, ap, ◌∙◌, subst, inl, inr, true≢false}
use Rattle.std.specs.Prelude.{Bool, true, false, cond, Some, None, ◌⊎◌}
use Rattle.lf.specs.Syntax.{constant, variable, metavariable, Term, Spine, lambda, root, nil, app, LfType, Kind, pi, atom, kind_pi, star, Skeleton, base, arrow, skeleton, kind_skeleton, rename, rename_spine, weaken, lift_renaming}
use Rattle.lf.specs.Substitution.{Image, put, lift, single, substitute, substitute_spine, substitute_type, substitute_kind, reduce}
use Rattle.lf.specs.SkeletonTyping.{HeadSkeletons, SkeletonAt, TermSkeleton, SpineSkeleton, KindBySkeletons}
use Rattle.lf.specs.Skeletons.{constant_skeletons, family_skeletons, context_skeletons}
use Rattle.lf.specs.Typing.{Signature, TypeAt, HasType, SpineFitsKind, instantiate_kind, ImageHasType, IsType, IsKind, IsContext, IsSignature}
use Rattle.lf.specs.Eta.{eta_long}
use Rattle.lf.specs.AtOnce.{lift_renaming_by}
use Rattle.lf.specs.Variables.{target, target_arguments, binders, onto, under, hide, everything, SameOn, Values, Uses, UsesSpine, UsesType, same_number}
use Rattle.lf.specs.Subordination.{Block}
use Rattle.lf.specs.Worlds.{World, lift_over, instance}
use Rattle.lf.specs.Extension.{Extends}
use Rattle.lf.proofs.Agreement.{agree_on, SameOn-under}
use Rattle.lf.proofs.Closed.{closed_kind_substituted}
use Rattle.lf.proofs.Eta.{eta_both, reduce_nil}
use Rattle.lf.proofs.ExtensionTyping.{extension_keeps_types}
use Rattle.lf.proofs.Renaming.{substitute_renamed_spine}
use Rattle.lf.proofs.Substitution.{family_kind}
use Rattle.lf.proofs.ToSkeletons.{typed_has_skeleton, kind_spine_has_skeleton, kind_by_skeletons}
use Rattle.lf.proofs.TypeLaws.{skeleton_renamed, skeleton_substituted}
use Rattle.lf.proofs.Weakening.{declared_is_type}
use Rattle.lf_checks.specs.Clause.{Clause, scope, outside, among, IsSubgoal}
use Rattle.lf_checks.specs.Marks.{Mark, input, output, free, input_places, output_places, NoneFree, SamePlaces, UsesPlaces}
use Rattle.lf_unification.specs.Search.{occurs, occurs_spine, occurs_type}
use Rattle.lf_checks.specs.Tests.{both, either}
use Rattle.lf_checks.proofs.StrictTypes.{either_cases}
use Rattle.lf.proofs.Checker.{number_is}
use Rattle.lf.proofs.Kept.{uses_unren_type}
use Rattle.lf_checks.specs.Ground.{UsesGoal}
use Rattle.lf_checks.specs.Worlded.{IsTerm}
use Rattle.lf_cases.specs.Cover.{AreTerms}
use Rattle.lf_cases.specs.Case.{Item, IsGroundInstance, HasArguments, items_context, chosen_count, covered_places}
use Rattle.lf_cases.specs.Raised.{other_masks, LowPlaces}
use Rattle.lf_cases.specs.Pattern.{Origin, FirstIs, Known, given_at, is_there, is_given, HasGiven, IsGivenFor, Holds}
use Rattle.lf_cases.specs.OutputGoal.{outside_items, outside_number, kept_items, kept_terms, goal_number, renumber, goal_over, closed_over, output_goal, goal_masks, output_items, output_arguments}
use Rattle.lf_cases.proofs.Assemble.{end_typed}
use Rattle.lf_cases.proofs.Local.{binders_substituted}
use Rattle.lf_cases.proofs.OutputItems.{InputsFit, masks_may, found, lift_renumber, lift_after, instance_renumber, arguments_renumber, locals_same}
use Rattle.lf_cases.proofs.Split.{first_on}
use Rattle.lf_cases.proofs.KeptItems.{behind, kept, KeptBy}
use Rattle.lf_totality.proofs.RaisedOutputs.{binders_over, hypotheses_agree}
use mathlib.Core.Path.{fun_ext}

some_kind : {K L : Kind} → Some K ≡ Some L → K ≡ L
some_kind e = cc

some_term : {M N : Term} → Some M ≡ Some N → M ≡ N
some_term e = cc

-- The clause's own variables are those of its quantifiers.
own_inside : (B : LfType) (X : List LfType) (V : ℕ → Bool) → ((j : ℕ) → among X j ≡ true → V j ≡ false) → (i : ℕ) → among (binders X B) i ≡ true → outside B V i ≡ false
own_inside (pi A B) X V h i e = own_inside B (A ∷ X) (hide V) newer i e
  where
    newer : (j : ℕ) → among (A ∷ X) j ≡ true → hide V j ≡ false
    newer zero e = refl
    newer (suc j) e = h j e
own_inside (atom a S) X V h i e = h i e

pub own_among : (B : LfType) (X : List LfType) (V : ℕ → Bool) → ((j : ℕ) → V j ≡ false → among X j ≡ true) → (i : ℕ) → outside B V i ≡ false → among (binders X B) i ≡ true
own_among (pi A B) X V h i e = own_among B (A ∷ X) (hide V) newer i e
  where
    newer : (j : ℕ) → hide V j ≡ false → among (A ∷ X) j ≡ true
    newer zero e = refl
    newer (suc j) e = h j e
own_among (atom a S) X V h i e = h i e

-- The given terms.
kept_every : (D : List LfType) (U : ℕ → Bool) (r : ℕ → ℕ) (i : ℕ) → U i ≡ true → among D i ≡ true → (M : Term) × (given_at (kept_terms U D r) i ≡ Some M)
kept_every [] U r i u e = absurd cc
kept_every (A ∷ D) U r zero u e = (eta_long (skeleton A) (variable (r zero)), ap (λ b. cond b (Some (eta_long (skeleton A) (variable (r zero)))) None) u)
kept_every (A ∷ D) U r (suc i) u e = kept_every D (λ j. U (suc j)) (λ j. r (suc j)) i u e

kept_only : (D : List LfType) (U : ℕ → Bool) (r : ℕ → ℕ) (i : ℕ) → is_given (kept_terms U D r) i ≡ true → U i ≡ true
kept_only [] U r i e = absurd cc
kept_only (A ∷ D) U r zero e = by (U zero) (eta_long (skeleton A) (variable (r zero))) e
  where
    by : (b : Bool) (M : Term) → is_there (cond b (Some M) None) ≡ true → b ≡ true
    by true M e = refl
    by false M e = e
kept_only (A ∷ D) U r (suc i) e = kept_only D (λ j. U (suc j)) (λ j. r (suc j)) i e

pub goal_gives : {c : Clause} (below : ℕ → ℕ → Bool) (m : ℕ → List Mark) (o : Origin c) (U : ℕ → Bool) (A : LfType) (K : Kind) → IsGivenFor c U (output_goal below m o U A K).given
goal_gives {c = c} below m o U A K =
    let r : ℕ → ℕ = λ j. goal_number o (closed_over (binders [] c.type) U) j + chosen_count (output_places (m (target A))) K in
    ((λ i u q. kept_every (binders [] c.type) U r i u (own_among c.type [] everything (λ j e. absurd (true≢false e)) i q)), (λ i e. kept_only (binders [] c.type) U r i e))

given_case : (t b : Bool) (E M : Term) → t ≡ b → cond t (Some E) None ≡ Some M → (t ≡ true) × (E ≡ M)
given_case true b E M e q = (refl, some_term q)
given_case false b E M e q = absurd (none_some q)
  where
    none_some : None ≡ Some M → ⊥
    none_some q = cc

kept_given : (κ : HeadSkeletons) (G O D : List LfType) (U : ℕ → Bool) (r : ℕ → ℕ) (σ ψ : ℕ → Image) → ((i : ℕ) (X : LfType) → TypeAt (onto D O) i X → among D i ≡ true → U i ≡ true → (N : Term) × (σ i ≡ put (skeleton X) N) × (ψ (r i) ≡ put (skeleton X) N) × TermSkeleton κ (context_skeletons G) N (skeleton X)) → HasGiven ψ (kept_terms U D r) σ
kept_given κ G O [] U r σ ψ h i M e = absurd cc
kept_given κ G O (A ∷ D) U r σ ψ h zero M e =
    let (u, p) = given_case (U zero) (U zero) (eta_long (skeleton A) (variable (r zero))) M refl e in
    let (N, a, b, n) = h zero (weaken A) refl refl u in
    let q : substitute reduce ψ (eta_long (skeleton A) (variable (r zero))) ≡ N = (eta_both κ (skeleton A)).1 (context_skeletons G) ψ (r zero) (skeleton (weaken A)) N nil b n (skeleton_renamed suc A) ∙ reduce_nil (skeleton (weaken A)) N in
    (skeleton (weaken A), a ∙ ap (put (skeleton (weaken A))) (sym q ∙ ap (substitute reduce ψ) p))
kept_given κ G O (A ∷ D) U r σ ψ h (suc i) M e = kept_given κ G O D (λ j. U (suc j)) (λ j. r (suc j)) (λ j. σ (suc j)) ψ (λ j X g a u. let (N, p, q, n) = h (suc j) (weaken X) (X, g, refl) a u in (N, p ∙ ap (λ s. put s N) (skeleton_renamed suc X), q ∙ ap (λ s. put s N) (skeleton_renamed suc X), subst (TermSkeleton κ (context_skeletons G) N) (skeleton_renamed suc X) n)) i M e

-- The goal has arguments at the outputs alone.
places_put_in : (ks : List (List Bool)) (D : List LfType) (b : List Bool) (σ : ℕ → Image) (K : Kind) → covered_places (output_arguments ks D b (substitute_kind reduce σ K)) ≡ covered_places (output_arguments ks D b K)
places_put_in ks D [] σ K = refl
places_put_in ks D (b ∷ m) σ star = refl
places_put_in ks D (true ∷ m) σ (kind_pi A K) = ap (λ x. true ∷ x) (places_put_in (other_masks ks) D m (lift σ) K)
places_put_in ks D (false ∷ m) σ (kind_pi A K) = ap (λ x. false ∷ x) (places_put_in ks D m (lift σ) K)

pub places_of_goal : (Σ : Signature) (G : List LfType) (ks : List (List Bool)) (D : List LfType) (m : List Mark) (S T : Spine) (K : Kind) → SamePlaces (input_places m) S T → SpineFitsKind Σ G T K → covered_places (output_arguments ks D (output_places m) K) ≡ output_places m
places_of_goal Σ G ks D [] S T K p f = refl
places_of_goal Σ G ks D (b ∷ m) nil T K p f = absurd p
places_of_goal Σ G ks D (b ∷ m) (app M S) nil K p f = absurd p
places_of_goal Σ G ks D (b ∷ m) (app M S) (app N T) star p f = absurd f
places_of_goal Σ G ks D (input ∷ m) (app M S) (app N T) (kind_pi A K) (e, p) (n, f) = ap (λ x. false ∷ x) (sym (places_put_in ks D (output_places m) (single (skeleton A) N) K) ∙ places_of_goal Σ G ks D m S T (instantiate_kind A N K) p f)
places_of_goal Σ G ks D (output ∷ m) (app M S) (app N T) (kind_pi A K) p (n, f) = ap (λ x. true ∷ x) (sym (places_put_in (other_masks ks) D (output_places m) (single (skeleton A) N) K) ∙ places_of_goal Σ G (other_masks ks) D m S T (instantiate_kind A N K) p f)
places_of_goal Σ G ks D (free ∷ m) (app M S) (app N T) (kind_pi A K) p (n, f) = ap (λ x. false ∷ x) (sym (places_put_in ks D (output_places m) (single (skeleton A) N) K) ∙ places_of_goal Σ G ks D m S T (instantiate_kind A N K) p f)

-- A renaming that keeps the skeletons of some variables keeps those of terms that use no others.
abbrev KeepsOn : (ℕ → Bool) → List Skeleton → List Skeleton → (ℕ → ℕ) → Type 0
KeepsOn U Γ Δ ρ = (i : ℕ) (t : Skeleton) → SkeletonAt Γ i t → U i ≡ true → SkeletonAt Δ (ρ i) t

keeps_under : (U : ℕ → Bool) (Γ Δ : List Skeleton) (ρ : ℕ → ℕ) (a : Skeleton) → KeepsOn U Γ Δ ρ → KeepsOn (under U) (a ∷ Γ) (a ∷ Δ) (lift_renaming ρ)
keeps_under U Γ Δ ρ a h zero t g u = g
keeps_under U Γ Δ ρ a h (suc i) t g u = h i t g u

mutual
  renamed_on : (κ : HeadSkeletons) (U : ℕ → Bool) (Γ Δ : List Skeleton) (ρ : ℕ → ℕ) (M : Term) (t : Skeleton) → KeepsOn U Γ Δ ρ → Uses U M → TermSkeleton κ Γ M t → TermSkeleton κ Δ (rename ρ M) t
  renamed_on κ U Γ Δ ρ (lambda M) (arrow a b) h u m = renamed_on κ (under U) (a ∷ Γ) (a ∷ Δ) (lift_renaming ρ) M b (keeps_under U Γ Δ ρ a h) u m
  renamed_on κ U Γ Δ ρ (lambda M) (base c) h u m = absurd m
  renamed_on κ U Γ Δ ρ (root k S) (arrow a b) h u m = absurd m
  renamed_on κ U Γ Δ ρ (root (constant d) S) (base c) h u (t, g, s) = (t, g, renamed_spine_on κ U Γ Δ ρ S t (base c) h u s)
  renamed_on κ U Γ Δ ρ (root (metavariable d) S) (base c) h u (t, g, s) = (t, g, renamed_spine_on κ U Γ Δ ρ S t (base c) h u s)
  renamed_on κ U Γ Δ ρ (root (variable i) S) (base c) h (u, v) (t, g, s) = (t, h i t g u, renamed_spine_on κ U Γ Δ ρ S t (base c) h v s)

  renamed_spine_on : (κ : HeadSkeletons) (U : ℕ → Bool) (Γ Δ : List Skeleton) (ρ : ℕ → ℕ) (S : Spine) (t u : Skeleton) → KeepsOn U Γ Δ ρ → UsesSpine U S → SpineSkeleton κ Γ S t u → SpineSkeleton κ Δ (rename_spine ρ S) t u
  renamed_spine_on κ U Γ Δ ρ nil t u h us s = s
  renamed_spine_on κ U Γ Δ ρ (app M S) (arrow a b) u h (um, us) (m, s) = (renamed_on κ U Γ Δ ρ M a h um m, renamed_spine_on κ U Γ Δ ρ S b u h us s)
  renamed_spine_on κ U Γ Δ ρ (app M S) (base c) u h us s = absurd s

inputs_on : (κ : HeadSkeletons) (U : ℕ → Bool) (Γ Δ : List Skeleton) (ρ : ℕ → ℕ) (m : List Mark) (S : Spine) (t u : Skeleton) → KeepsOn U Γ Δ ρ → UsesPlaces U (input_places m) S → SpineSkeleton κ Γ S t u → InputsFit κ Δ m (rename_spine ρ S) t
inputs_on κ U Γ Δ ρ [] S t u h us s = tt
inputs_on κ U Γ Δ ρ (b ∷ m) nil t u h us s = tt
inputs_on κ U Γ Δ ρ (b ∷ m) (app M S) (base c) u h us s = absurd s
inputs_on κ U Γ Δ ρ (input ∷ m) (app M S) (arrow a t) u h (um, us) (k, s) = (renamed_on κ U Γ Δ ρ M a h um k, inputs_on κ U Γ Δ ρ m S t u h us s)
inputs_on κ U Γ Δ ρ (output ∷ m) (app M S) (arrow a t) u h us (k, s) = inputs_on κ U Γ Δ ρ m S t u h us s
inputs_on κ U Γ Δ ρ (free ∷ m) (app M S) (arrow a t) u h us (k, s) = inputs_on κ U Γ Δ ρ m S t u h us s

-- the same of a subgoal, under its quantifiers
goal_fits : (κ : HeadSkeletons) (U : ℕ → Bool) (C Y X : List LfType) (ρ : ℕ → ℕ) (m : List Mark) (A : LfType) (t u : Skeleton) → KeepsOn U (context_skeletons C) (context_skeletons Y) (lift_renaming_by (length X) ρ) → UsesGoal U (input_places m) A → SpineSkeleton κ (context_skeletons (binders C A)) (target_arguments A) t u → InputsFit κ (context_skeletons (binders Y A)) m (rename_spine (lift_renaming_by (length (binders X A)) ρ) (target_arguments A)) t
goal_fits κ U C Y X ρ m (pi B A) t u h (ub, ua) s = goal_fits κ (under U) (B ∷ C) (B ∷ Y) (B ∷ X) ρ m A t u (keeps_under U (context_skeletons C) (context_skeletons Y) (lift_renaming_by (length X) ρ) (skeleton B) h) ua s
goal_fits κ U C Y X ρ m (atom a S) t u h us s = inputs_on κ U (context_skeletons C) (context_skeletons Y) (lift_renaming_by (length X) ρ) m S t u h us s

-- the arguments of a subgoal under values
pub arguments_under : (X : List LfType) (A : LfType) (σ : ℕ → Image) → target_arguments (substitute_type reduce (lift_over X σ) A) ≡ substitute_spine reduce (lift_over (binders X A) σ) (target_arguments A)
arguments_under X (pi B A) σ = arguments_under (B ∷ X) A σ
arguments_under X (atom a S) σ = refl

same_places : (U : ℕ → Bool) (σ τ : ℕ → Image) (m : List Bool) (S T : Spine) → SameOn U σ τ → UsesPlaces U m S → SamePlaces m (substitute_spine reduce σ S) T → SamePlaces m (substitute_spine reduce τ S) T
same_places U σ τ [] nil nil h u p = tt
same_places U σ τ [] nil (app N T) h u p = absurd p
same_places U σ τ [] (app M S) T h u p = absurd p
same_places U σ τ (b ∷ m) nil T h u p = absurd p
same_places U σ τ (b ∷ m) (app M S) nil h u p = absurd p
same_places U σ τ (true ∷ m) (app M S) (app N T) h (u, v) (e, p) = (sym (agree_on reduce U σ τ M h u) ∙ e, same_places U σ τ m S T h v p)
same_places U σ τ (false ∷ m) (app M S) (app N T) h u p = same_places U σ τ m S T h u p

pub same_inputs : (U : ℕ → Bool) (σ τ : ℕ → Image) (m : List Bool) (A : LfType) (T : Spine) → SameOn U σ τ → UsesGoal U m A → SamePlaces m (target_arguments (substitute_type reduce σ A)) T → SamePlaces m (target_arguments (substitute_type reduce τ A)) T
same_inputs U σ τ m (pi B A) T h (u, v) p = same_inputs (under U) (lift σ) (lift τ) m A T (SameOn-under U σ τ h) v p
same_inputs U σ τ m (atom a S) T h u p = same_places U σ τ m S T h u p

onto_nothing : (D : List LfType) → onto D [] ≡ D
onto_nothing [] = refl
onto_nothing (A ∷ D) = ap (λ X. A ∷ X) (onto_nothing D)

own_value : (Σ : Signature) (G : List LfType) (x : Image) (X : LfType) → IsTerm x → ImageHasType Σ G x X → (N : Term) × (x ≡ put (skeleton X) N) × HasType Σ G N X
own_value Σ G (Rattle.lf.specs.Substitution.keep j) X i t = absurd i
own_value Σ G (put a N) X i (e, n) = (N, ap (λ s. put s N) (sym e), n)

-- What stands outside the clause is held: a ground instance of the items for it, which gives what σ gives.
pub record HoldsOutside {c : Clause} (o : Origin c) (U : ℕ → Bool) {Σ : Signature} {W : List Block} {S : ℕ → Bool} {G : List LfType} (w : World Σ W S G) (F : Known) (σ : ℕ → Image) : Type 0 where
  pub values : ℕ → Image
  pub is_ground : IsGroundInstance w (outside_items o) values
  pub first : FirstIs w (outside_items o) values is_ground F
  pub gives : KeptBy Σ w c.outer (behind (binders [] c.type) U) (behind (binders [] c.type) σ) (outside_number o) (outside_items o) values

-- A set that holds the variables in the types of its variables is that with these.
mutual
  occurs_used : (U : ℕ → Bool) (x : ℕ) (M : Term) → Uses U M → occurs x M ≡ true → U x ≡ true
  occurs_used U x (lambda M) u e = occurs_used (under U) (suc x) M u e
  occurs_used U x (root (constant c) S) u e = occurs_used_spine U x S u e
  occurs_used U x (root (metavariable m) S) u e = occurs_used_spine U x S u e
  occurs_used U x (root (variable i) S) (u, v) e = by (either_cases (same_number x i) (occurs_spine x S) e) (λ q. occurs_used_spine U x S v q)
    where
      by : (same_number x i ≡ true) ⊎ (occurs_spine x S ≡ true) → (occurs_spine x S ≡ true → U x ≡ true) → U x ≡ true
      by (inl q) f = ap U (number_is x i q) ∙ u
      by (inr q) f = f q

  occurs_used_spine : (U : ℕ → Bool) (x : ℕ) (S : Spine) → UsesSpine U S → occurs_spine x S ≡ true → U x ≡ true
  occurs_used_spine U x nil u e = absurd cc
  occurs_used_spine U x (app M S) (u, v) e = by (either_cases (occurs x M) (occurs_spine x S) e) (λ q. occurs_used U x M u q) (λ q. occurs_used_spine U x S v q)
    where
      by : (occurs x M ≡ true) ⊎ (occurs_spine x S ≡ true) → (occurs x M ≡ true → U x ≡ true) → (occurs_spine x S ≡ true → U x ≡ true) → U x ≡ true
      by (inl q) f g = f q
      by (inr q) f g = g q

occurs_used_type : (U : ℕ → Bool) (x : ℕ) (A : LfType) → UsesType U A → occurs_type x A ≡ true → U x ≡ true
occurs_used_type U x (pi A B) (u, v) e = by (either_cases (occurs_type x A) (occurs_type (suc x) B) e) (λ q. occurs_used_type U x A u q) (λ q. occurs_used_type (under U) (suc x) B v q)
  where
    by : (occurs_type x A ≡ true) ⊎ (occurs_type (suc x) B ≡ true) → (occurs_type x A ≡ true → U x ≡ true) → (occurs_type (suc x) B ≡ true → U x ≡ true) → U x ≡ true
    by (inl q) f g = f q
    by (inr q) f g = g q
occurs_used_type U x (atom a S) u e = occurs_used_spine U x S u e

no_more : (a b c : Bool) → (b ≡ true → c ≡ true → a ≡ true) → either a (both b c) ≡ a
no_more true b c h = refl
no_more false true true h = sym (h refl refl)
no_more false true false h = refl
no_more false false c h = refl

closed_same : (D O : List LfType) (U : ℕ → Bool) → ((i : ℕ) (X : LfType) → TypeAt (onto D O) i X → U i ≡ true → UsesType U X) → (i : ℕ) → closed_over D U i ≡ U i
closed_same [] O U h i = refl
closed_same (A ∷ D) O U h zero = refl
closed_same (A ∷ D) O U h (suc i) =
    let tail : (λ j. either (U (suc j)) (both (U zero) (occurs_type j A))) ≡ (λ j. U (suc j)) = fun_ext (λ j. no_more (U (suc j)) (U zero) (occurs_type j A) (λ u q. occurs_used_type (λ k. U (suc k)) j A (uses_unren_type (λ k. U (suc k)) U suc A (λ k v. v) (h zero (weaken A) refl u)) q)) in
    ap (λ V. closed_over D V i) tail ∙ closed_same D O (λ j. U (suc j)) (λ j X g u. uses_unren_type (λ k. U (suc k)) U suc X (λ k v. v) (h (suc j) (weaken X) (X, g, refl) u)) i

-- The lemma, where what is kept is what is given
goal_over_holds : (Σ : Signature) → IsSignature Σ → (W : List Block) (below : ℕ → ℕ → Bool) (m : ℕ → List Mark) (S : ℕ → Bool) (c : Clause) (o : Origin c) (U : ℕ → Bool) (n : ℕ) (A : LfType) → IsContext Σ (scope c) → IsSubgoal c n A → NoneFree (m (target A)) → UsesGoal U (input_places (m (target A))) A → (K : Kind) → Σ.kinds (target A) ≡ Some K → (Σ' : Signature) → Extends S Σ Σ' → (G : List LfType) (w : World Σ' W S G) (F : Known) (σ : ℕ → Image) → Values Σ' U (scope c) G σ → AreTerms c U σ → HoldsOutside o U w F σ → (T : Spine) → SamePlaces (input_places (m (target A))) (target_arguments (substitute_type reduce σ A)) T → SpineFitsKind Σ' (binders G (substitute_type reduce σ A)) T K → IsContext Σ' (binders G (substitute_type reduce σ A)) → LowPlaces below (binders [] (substitute_type reduce σ A)) (output_places (m (target A))) T K → Holds w (goal_over below m o U U A K) F σ T
goal_over_holds Σ ok W below m S c o U n A ct (nv, at) none needs K e Σ' x G w F σ v ts b T p fit cg h =
    let κ : HeadSkeletons = constant_skeletons Σ' in
    let D : List LfType = binders [] c.type in
    let es : scope c ≡ onto D c.outer = binders_over [] c.type c.outer in
    let own : (i : ℕ) → among D i ≡ true → U i ≡ true → IsTerm (σ i) = λ i a u. ts i (own_inside c.type [] everything (λ j z. absurd (true≢false (sym z))) i a) u in
    let typed : (i : ℕ) (X : LfType) → TypeAt (onto D c.outer) i X → U i ≡ true → ImageHasType Σ' G (σ i) (substitute_type reduce σ X) = λ i X g u. v.typed i X (subst (λ C. TypeAt C i X) (sym es) g) u in
    let (φ, gφ, fi, k) = kept Σ' w c.outer D U σ (outside_number o) (outside_items o) b.values b.is_ground typed (λ i X g u. v.closed i X (subst (λ C. TypeAt C i X) (sym es) g) u) own b.gives in
    let ρ : ℕ → ℕ = goal_number o U in
    let τ : ℕ → Image = λ i. φ (ρ i) in
    let I : List Item = kept_items U D (outside_number o) (outside_items o) in
    let D0 : List LfType = binders [] A in
    let L : List LfType = renumber ρ D0 in
    let H : Spine = rename_spine (lift_renaming_by (length D0) ρ) (target_arguments A) in
    let ms : List Mark = m (target A) in
    let like : SameOn U σ τ = λ i u. sym (k.same i u) in
    let e' : Σ'.kinds (target A) ≡ Some K = x.kinds_stay (target A) K e in
    let t : IsType Σ' (scope c) A = extension_keeps_types S Σ Σ' x (scope c) A (declared_is_type Σ ok (scope c) n A ct at) in
    let (K0, e0, s0) = end_typed Σ' x.ok A (scope c) t in
    let s1 : SpineFitsKind Σ' (binders (scope c) A) (target_arguments A) K = subst (SpineFitsKind Σ' (binders (scope c) A) (target_arguments A)) (some_kind (sym e0 ∙ e')) s0 in
    let sk : SpineSkeleton κ (context_skeletons (binders (scope c) A)) (target_arguments A) (kind_skeleton (target A) K) (base (target A)) = kind_spine_has_skeleton Σ' (target A) (binders (scope c) A) (target_arguments A) K s1 in
    let keeps_on : KeepsOn U (context_skeletons (scope c)) (context_skeletons (items_context I)) ρ = λ i r g u. k.skeletons i r (subst (λ C. SkeletonAt (context_skeletons C) i r) es g) u in
    let fits : InputsFit κ (context_skeletons (onto L (items_context I))) ms H (kind_skeleton (target A) K) = subst (λ Γ. InputsFit κ Γ ms H (kind_skeleton (target A) K)) (ap context_skeletons (binders_over [] A (items_context I)) ∙ sym (locals_same ρ D0 (items_context I))) (goal_fits κ U (scope c) (items_context I) [] ρ ms A (kind_skeleton (target A) K) (base (target A)) keeps_on needs sk) in
    let kb : KindBySkeletons (family_skeletons Σ') κ (context_skeletons (onto L (items_context I))) K = kind_by_skeletons Σ' (onto L (items_context I)) K (family_kind Σ' x.ok (onto L (items_context I)) (target A) K e') in
    let closed : (s : ℕ → Image) → substitute_kind reduce s K ≡ K = λ s. closed_kind_substituted Σ' reduce s K (family_kind Σ' x.ok [] (target A) K e') in
    let deep : substitute_spine reduce (lift_over L φ) H ≡ target_arguments (substitute_type reduce τ A) = ap (λ f. substitute_spine reduce f H) (lift_renumber ρ D0 φ) ∙ substitute_renamed_spine reduce (lift_over D0 φ) (lift_renaming_by (length D0) ρ) (target_arguments A) ∙ ap (λ f. substitute_spine reduce f (target_arguments A)) (lift_after D0 ρ φ) ∙ sym (arguments_under [] A τ) in
    let p' : SamePlaces (input_places ms) (substitute_spine reduce (lift_over L φ) H) T = subst (λ Z. SamePlaces (input_places ms) Z T) (sym deep) (same_inputs U σ τ (input_places ms) A T like needs p) in
    let local : (Y : List LfType) → binders Y (substitute_type reduce σ A) ≡ onto (instance L φ) Y = λ Y. hypotheses_agree U (input_places ms) σ τ A Y like needs ∙ binders_substituted A τ Y ∙ ap (λ Z. onto Z Y) (sym (instance_renumber ρ D0 φ)) in
    let fit' : SpineFitsKind Σ' (onto (instance L φ) G) T (substitute_kind reduce (lift_over L φ) K) = subst (SpineFitsKind Σ' (onto (instance L φ) G) T) (sym (closed (lift_over L φ))) (subst (λ Y. SpineFitsKind Σ' Y T K) (local G) fit) in
    let h' : LowPlaces below (instance L φ) (output_places ms) T (substitute_kind reduce (lift_over L φ) K) = subst (LowPlaces below (instance L φ) (output_places ms) T) (sym (closed (lift_over L φ))) (subst (λ Y. LowPlaces below Y (output_places ms) T K) (local [] ∙ onto_nothing (instance L φ)) h) in
    let ks : List (List Bool) = goal_masks below m o U A K in
    let c' : IsContext Σ' (onto (instance L φ) G) = subst (IsContext Σ') (local G) cg in
    let ik : IsKind Σ' (onto (instance L φ) G) (substitute_kind reduce (lift_over L φ) K) = subst (IsKind Σ' (onto (instance L φ) G)) (sym (closed (lift_over L φ))) (family_kind Σ' x.ok (onto (instance L φ) G) (target A) K e') in
    let (ψ, gψ, fj, args, keeps) = found Σ' x.ok below w ks L ms H K (target A) I φ T none gφ k.fits kb fits c' ik (masks_may Σ' x.ok below w L (output_places ms) H K) p' fit' h' in
    let n0 : ℕ = chosen_count (output_places ms) K in
    record {
      values = ψ;
      is_ground = gψ;
      first = first_on w (outside_items o) (output_items ks L (output_places ms) H K I) b.values ψ b.is_ground gψ F (λ B z f. fj.0 B z (fi B z f)) b.first;
      given = kept_given κ G c.outer D U (λ i. ρ i + n0) σ ψ (λ i X g a u.
          let (N, q, nt) = own_value Σ' G (σ i) (substitute_type reduce σ X) (own i a u) (typed i X g u) in
          let q' : σ i ≡ put (skeleton X) N = q ∙ ap (λ s. put s N) (skeleton_substituted reduce σ X) in
          (N, q', keeps (ρ i) ∙ k.same i u ∙ q', subst (TermSkeleton κ (context_skeletons G) N) (skeleton_substituted reduce σ X) (typed_has_skeleton Σ' G N (substitute_type reduce σ X) nt)));
      has_arguments = subst (λ f. HasArguments f (output_arguments ks D0 (output_places ms) K) T) (lift_renumber ρ D0 ψ ∙ sym (lift_renumber (λ i. ρ i + n0) D0 ψ)) (subst (λ Ms. HasArguments (lift_over L ψ) Ms T) (arguments_renumber ks ρ D0 (output_places ms) K) args);
    }

-- The lemma
pub goal_holds : (Σ : Signature) → IsSignature Σ → (W : List Block) (below : ℕ → ℕ → Bool) (m : ℕ → List Mark) (S : ℕ → Bool) (c : Clause) (o : Origin c) (U : ℕ → Bool) (n : ℕ) (A : LfType) → IsContext Σ (scope c) → IsSubgoal c n A → NoneFree (m (target A)) → UsesGoal U (input_places (m (target A))) A → (K : Kind) → Σ.kinds (target A) ≡ Some K → (Σ' : Signature) → Extends S Σ Σ' → (G : List LfType) (w : World Σ' W S G) (F : Known) (σ : ℕ → Image) → Values Σ' U (scope c) G σ → AreTerms c U σ → HoldsOutside o U w F σ → (T : Spine) → SamePlaces (input_places (m (target A))) (target_arguments (substitute_type reduce σ A)) T → SpineFitsKind Σ' (binders G (substitute_type reduce σ A)) T K → IsContext Σ' (binders G (substitute_type reduce σ A)) → LowPlaces below (binders [] (substitute_type reduce σ A)) (output_places (m (target A))) T K → Holds w (output_goal below m o U A K) F σ T
goal_holds Σ ok W below m S c o U n A ct (nv, at) none needs K e Σ' x G w F σ v ts b T p fit cg h =
    let same : closed_over (binders [] c.type) U ≡ U = fun_ext (closed_same (binders [] c.type) c.outer U (λ i X g u. v.closed i X (subst (λ C. TypeAt C i X) (sym (binders_over [] c.type c.outer)) g) u)) in
    subst (λ V. Holds w (goal_over below m o V U A K) F σ T) (sym same) (goal_over_holds Σ ok W below m S c o U n A ct (nv, at) none needs K e Σ' x G w F σ v ts b T p fit cg h)
