-- A case by number that is typed beside a pattern with what is tried put in: its arguments have the types of their places beside the pattern over the
-- clause's own variables and the case's, under all values that have the known terms.
use Rattle.std.proofs.Common.{◌≡◌, ℕ, zero, ◌+◌, ◌-◌, ◌<◌, List, [], length, sym, ap, ◌∙◌, subst, inl, inr}
use Rattle.std.specs.Prelude.{Bool, true, false, cond, Some, ◌⊎◌}
use Rattle.lf.specs.Syntax.{Term, LfType, skeleton, kind_skeleton, base}
use Rattle.lf.specs.Substitution.{Image, keep, put, rename_image, substitute, substitute_image, substitute_spine, substitute_type, reduce, after}
use Rattle.lf.specs.AtOnce.{shift_by}
use Rattle.lf.specs.Entries.{quantifiers}
use Rattle.lf.specs.SkeletonTyping.{HeadSkeletons, SkeletonAt, ImageSkeleton, SpineSkeleton, SubstitutionBySkeletons}
use Rattle.lf.specs.Skeletons.{constant_skeletons, family_skeletons, context_skeletons}
use Rattle.lf.specs.Typing.{Signature, TypeAt, IsType, IsContext, IsSignature}
use Rattle.lf.specs.Variables.{target_arguments, binders, onto, SameOn, UsesType, Within, everything, nothing}
use Rattle.lf.specs.Subordination.{Block, AreTypedBlocks}
use Rattle.lf.specs.Worlds.{lift_over, instance}
use Rattle.lf.proofs.Composition.{substitutions_compose_spine}
use Rattle.lf.proofs.Decidability.{variable_type_unique}
use Rattle.lf.proofs.Kept.{substitute_uses_type}
use Rattle.lf.proofs.Patch.{patch, patch_same}
use Rattle.lf.proofs.Renaming.{substitute_identity, substitute_renamed}
use Rattle.lf.proofs.SkeletonTypes.{substitutions_compose_type}
use Rattle.lf.proofs.Target.{target_of}
use Rattle.lf.proofs.ToSkeletons.{kind_spine_has_skeleton, skeleton_has_variable, type_by_skeletons, variable_has_skeleton}
use Rattle.lf.proofs.TypeLaws.{skeleton_substituted}
use Rattle.lf_checks.specs.Clause.{scope, variables, outside}
use Rattle.lf_checks.specs.Ground.{UsesGoal}
use Rattle.lf_checks.specs.Parts.{type_at}
use Rattle.lf_checks.specs.Strict.{strict_goal}
use Rattle.lf_checks.specs.Tests.{both, either}
use Rattle.lf_checks.proofs.StrictTypes.{either_cases}
use Rattle.lf_cases.specs.Candidates.{given_images}
use Rattle.lf_cases.specs.Case.{covered_places}
use Rattle.lf_cases.specs.Pattern.{Pattern, given_at, is_given, ground_in}
use Rattle.lf_cases.proofs.Assemble.{binders_typed, end_typed}
use Rattle.lf_cases.proofs.GroundTypes.{either_left}
use Rattle.lf_cases.proofs.Local.{binders_substituted}
use Rattle.lf_cases.proofs.OutputItems.{length_instance}
use Rattle.lf_totality.proofs.Core.{out_index, outside_at}
use Rattle.lf_totality.proofs.GoalHolds.{arguments_under}
use Rattle.lf_totality.proofs.OutputCases.{either_in}
use Rattle.lf_totality.proofs.RaisedOutputs.{binders_over}
use Rattle.lf_totality.proofs.Theorem.{outside_from}
use Rattle.lf_coverage.specs.OrElse.{or_else}
use Rattle.lf_coverage.specs.Heads.{HaveSkeletons}
use Rattle.lf_coverage.specs.Leaf.{IsTypedPattern}
use Rattle.lf_coverage.specs.Matching.{as_image, other_places, found_goal}
use Rattle.lf_coverage.specs.TypedCase.{TypedArguments}
use Rattle.lf_coverage.proofs.Choices.{decided}
use Rattle.lf_coverage.proofs.ClauseValues.{out_back}
use Rattle.lf_coverage.proofs.NearOrFar.{near_or_far}
use Rattle.lf_coverage.proofs.GivenValues.{StandsForItself, StandsForGiven, given_cases}
use Rattle.lf_coverage.proofs.GoalTyped.{TypedGoal, goal_is_typed}
use Rattle.lf_coverage.proofs.InstancesCompose.{first_under, local_twice}
use Rattle.lf_coverage.proofs.Leaves.{given_is}
use Rattle.lf_coverage.proofs.Matched.{given_there, own_type}
use Rattle.lf_coverage.proofs.Matching.{found_is}
use Rattle.lf_coverage.proofs.SomeHead.{onto_nothing}
use Rattle.lf_coverage.proofs.Transfer.{after_over, lift_instance, lifted_instance, onto_skeleton}
use Rattle.lf_numbered.specs.EntryConstants.{with_entries, IsFreeFrom}
use Rattle.lf_numbered.specs.EntryPatternsMatching.{placed_type, found_placed}
use Rattle.lf_numbered.specs.EntryTerms.{IsTried, own_values, beside_values, known_in, IsTypedBesideWith}
use Rattle.lf_numbered.specs.NumberedCase.{NumberedCase}
use Rattle.lf_numbered.specs.OwnTerms.{blocks_of}
use Rattle.lf_numbered.specs.TypedNumbered.{IsTypedNumberedCase}
use Rattle.lf_numbered.proofs.EntryPatternsNear.{out_far, from_instance, behind_skeleton, near_own}
use Rattle.lf_numbered.proofs.EntryPatternsMatching.{entries_signature}
use Rattle.lf_numbered.proofs.EntryPatternsValues.{typed_inside}
use Rattle.lf_numbered.proofs.EntryTermsPlaced.{K, O, Q, σ, far_is, near_is, own_is, scope_is, scope₁, type₁, σ_fits, σ_uses}
use Rattle.lf_numbered.proofs.EntryTermsTried.{OuterFacts, tried_facts}
use Rattle.lf_numbered.proofs.EntryTermsUses.{goal_uses}
use Rattle.lf_numbered.proofs.ReadValues.{inside_onto}
use mathlib.Core.Path.{fun_ext}

module _ (Σ : Signature) (ok : IsSignature Σ) (W : List Block) (typed : AreTypedBlocks Σ W) (first : ℕ) (free : IsFreeFrom Σ first) (C : NumberedCase) (tc : IsTypedNumberedCase Σ first W C) (p : Pattern) (tp : IsTypedPattern Σ p) (own_given : (i : ℕ) → is_given C.given i ≡ true → outside p.clause.type everything i ≡ false) (others : UsesGoal (known_in C p) (other_places C.arguments) p.type) (φ : ℕ → Image) (tried : IsTried first C p.origin p.at_first φ) (b : IsTypedBesideWith Σ first C p φ) where
  abbrev Σ₁ : Signature
  Σ₁ = with_entries Σ first (blocks_of C.blocks)

  abbrev κ : HeadSkeletons
  κ = constant_skeletons Σ₁

  ok₁ : IsSignature Σ₁
  ok₁ = entries_signature Σ ok W typed first free C tc

  abbrev pub f : OuterFacts Σ ok W typed first free C tc p.clause φ
  f = tried_facts Σ ok W typed first free C tc p.origin p.at_first φ tried

  abbrev X : List LfType
  X = C.variables

  abbrev ρ : ℕ → Image
  ρ = σ Σ ok W typed first free C tc p tp φ f.outer_typed f.fixed

  abbrev G : List LfType
  G = O Σ ok W typed first free C tc p tp φ f.outer_typed f.fixed

  abbrev H : List LfType
  H = K Σ ok W typed first free C tc p tp φ f.outer_typed f.fixed

  abbrev F : List LfType
  F = Q Σ ok W typed first free C tc p tp φ f.outer_typed f.fixed

  abbrev D : List LfType
  D = binders [] p.type

  abbrev U : ℕ → Bool
  U = known_in C p

  -- The known terms over the clause's own variables and the case's: the others move past the case's.
  abbrev pub γ : ℕ → Image
  γ i = cond (outside p.clause.type everything i) (keep (i - quantifiers p.clause.type)) (given_images (scope p.clause) C.given (length C.variables) i)

  γ_own : (i : ℕ) → outside p.clause.type everything i ≡ false → γ i ≡ given_images (scope p.clause) C.given (length C.variables) i
  γ_own i o = ap (λ c. cond c (keep (i - quantifiers p.clause.type)) (given_images (scope p.clause) C.given (length C.variables) i)) o

  γ_outside : (i : ℕ) → outside p.clause.type everything i ≡ true → γ i ≡ keep (i - quantifiers p.clause.type)
  γ_outside i o = ap (λ c. cond c (keep (i - quantifiers p.clause.type)) (given_images (scope p.clause) C.given (length C.variables) i)) o

  pub beside_own : (i : ℕ) → outside p.clause.type everything i ≡ false → beside_values C p φ i ≡ γ i
  beside_own i o = ap (λ c. cond c (φ (i - quantifiers p.clause.type)) (given_images (scope p.clause) C.given (length C.variables) i)) o ∙ sym (γ_own i o)

  γ_far : (l : ℕ) → γ (l + length F) ≡ keep l
  γ_far l = ap γ (sym (out_far p.clause.type l)) ∙ γ_outside (out_index p.clause.type l) (outside_at p.clause.type everything l) ∙ ap keep (out_back p.clause.type l)

  γ_back : (y : Image) → substitute_image γ (rename_image (shift_by (length F)) y) ≡ y
  γ_back (keep j) = γ_far j
  γ_back (put a N) = ap (put a) (substitute_renamed reduce γ (shift_by (length F)) N ∙ ap (λ s. substitute reduce s N) (fun_ext γ_far) ∙ substitute_identity reduce N)

  -- with φ they are what stands beside the case
  beside_is : after γ ρ ≡ beside_values C p φ
  beside_is = fun_ext (λ i. decided (outside p.clause.type everything i)
      (λ o.
      let (l, e, z) = outside_from p.clause.type everything i o in
      ap (substitute_image γ) (ap ρ (e ∙ out_far p.clause.type l) ∙ far_is Σ ok W typed first free C tc p tp φ f.outer_typed f.fixed l)
      ∙ γ_back (φ l)
      ∙ sym (ap (beside_values C p φ) e ∙ ap (λ c. cond c (φ (out_index p.clause.type l - quantifiers p.clause.type)) (given_images (scope p.clause) C.given (length C.variables) (out_index p.clause.type l))) (outside_at p.clause.type everything l) ∙ ap φ (out_back p.clause.type l)))
      (λ o. ap (substitute_image γ) (near_is Σ ok W typed first free C tc p tp φ f.outer_typed f.fixed i o) ∙ sym (beside_own i o)))

  -- The given terms are what is found.
  pub given_is_found : (i : ℕ) (A : LfType) → TypeAt (scope p.clause) i A → is_given C.given i ≡ true → (N : Term) × (γ i ≡ put (skeleton A) N) × (found_placed C p φ i ≡ Some N)
  given_is_found i A h u = by (given_cases (scope p.clause) C.given (length C.variables) i)
    where
      there : (M : Term) × (given_at C.given i ≡ Some M)
      there = given_there C.given i u

      same : (E : LfType) (P : Term) → TypeAt (scope p.clause) i E → skeleton E ≡ skeleton A
      same E P x = ap skeleton (variable_type_unique (scope p.clause) i E A x h)

      by : StandsForItself (scope p.clause) C.given (length C.variables) i ⊎ StandsForGiven (scope p.clause) C.given (length C.variables) i → (N : Term) × (γ i ≡ put (skeleton A) N) × (found_placed C p φ i ≡ Some N)
      by (inl (r, none)) = absurd (none A there.0 h there.1)
      by (inr (E, P, x, r, z)) = (P, γ_own i (own_given i u) ∙ z ∙ ap (λ a. put a P) (same E P x), ap (λ y. or_else y (found_goal nothing nothing zero i (placed_type p φ) C.arguments)) r)

  pub known_found : SameOn U γ (own_values C p φ)
  known_found i z = decided (outside p.clause.type everything i)
      (λ o. γ_outside i o ∙ sym (ap (λ c. cond c (keep (i - quantifiers p.clause.type)) (as_image i (type_at (scope p.clause) i) (found_placed C p φ i))) o))
      (λ o.
      let u = given_of o in
      let (A, h) = own_type p.clause i o in
      let (N, q, r) = given_is_found i A h u in
      q ∙ sym (own_is Σ ok W typed first free C tc p tp φ f.outer_typed f.fixed i o ∙ found_is i (scope p.clause) A (found_placed C p φ i) N h r))
    where
      given_of : outside p.clause.type everything i ≡ false → is_given C.given i ≡ true
      given_of o = elim (either_cases (is_given C.given i) (outside p.clause.type everything i) z) [ inl u ↦ u | inr e ↦ absurd (no (sym o ∙ e)) ]
        where
          no : false ≡ true → ⊥
          no e = cc

  pub known_ground : Within U (ground_in p (covered_places C.arguments) C.given)
  known_ground i z = elim (either_cases (is_given C.given i) (outside p.clause.type everything i) z) [
    | inl u ↦ either_left (either (outside p.clause.type everything i) (both (variables p.clause i) (strict_goal (covered_places C.arguments) nothing (outside p.clause.type p.clause.fixed) i p.type))) u
    | inr o ↦ either_in (is_given C.given i) (either_left (both (variables p.clause i) (strict_goal (covered_places C.arguments) nothing (outside p.clause.type p.clause.fixed) i p.type)) o)
  ]

  pub known_patched : SameOn U γ (patch (ground_in p (covered_places C.arguments) C.given) C.variables (own_values C p φ))
  known_patched i z = known_found i z ∙ patch_same (ground_in p (covered_places C.arguments) C.given) C.variables (own_values C p φ) i (known_ground i z)

  -- They have the skeletons of the variables, over the case's and the clause's.
  γ_fits : SubstitutionBySkeletons κ (context_skeletons H) (context_skeletons (onto X G)) γ
  γ_fits j t h = by (near_or_far (length F) j)
    where
      near : (A : LfType) → TypeAt G j A → skeleton A ≡ t → outside p.clause.type everything j ≡ false → ImageSkeleton κ (context_skeletons (onto X G)) (γ j) t
      near A x e o = decided (is_given C.given j)
          (λ u.
          let h : TypeAt (scope p.clause) j A = subst (λ E. TypeAt E j A) (sym (scope_is Σ ok W typed first free C tc p tp φ f.outer_typed f.fixed)) x in
          subst (λ y. ImageSkeleton κ (context_skeletons (onto X G)) y t) (beside_own j o) (subst (ImageSkeleton κ (context_skeletons (onto X G)) (beside_values C p φ j)) (skeleton_substituted reduce (beside_values C p φ) A ∙ e) (typed_inside Σ₁ X G (beside_values C p φ j) (substitute_type reduce (beside_values C p φ) A) (b.given.typed j A h (either_left (outside p.clause.type everything j) u)))))
          (λ u. itself u (given_cases (scope p.clause) C.given (length C.variables) j))
        where
          itself : is_given C.given j ≡ false → StandsForItself (scope p.clause) C.given (length C.variables) j ⊎ StandsForGiven (scope p.clause) C.given (length C.variables) j → ImageSkeleton κ (context_skeletons (onto X G)) (γ j) t
          itself u (inl (r, none)) = subst (λ y. ImageSkeleton κ (context_skeletons (onto X G)) y t) (sym (γ_own j o ∙ r)) (onto_skeleton X G j t (subst (SkeletonAt (context_skeletons G) j) e (variable_has_skeleton G j A x)))
          itself u (inr (E, P, y, r, z)) = absurd (no (sym u ∙ given_is C.given j P r))
            where
              no : false ≡ true → ⊥
              no e = cc

      by : (j < length F) ⊎ ((l : ℕ) × (j ≡ l + length F)) → ImageSkeleton κ (context_skeletons (onto X G)) (γ j) t
      by (inl n) = let (A, x, e) = skeleton_has_variable G j t (from_instance F p.clause.outer X φ j t n h) in near A x e (near_own p.clause.type j n)
      by (inr (l, e)) = subst (λ y. ImageSkeleton κ (context_skeletons (onto X G)) y t) (sym (ap γ e ∙ γ_far l)) (inside_onto X G l t (behind_skeleton (instance F φ) X l t (subst (λ i. SkeletonAt (context_skeletons H) i t) (e ∙ ap (λ n. l + n) (sym (length_instance F φ))) h)))

  -- What is known in a type is put in at once.
  pub known_type : (A : LfType) → IsType Σ₁ G A → substitute_type reduce γ (substitute_type reduce ρ A) ≡ substitute_type reduce (beside_values C p φ) A
  known_type A t = substitutions_compose_type (family_skeletons Σ₁) κ (context_skeletons G) (context_skeletons H) (context_skeletons (onto X G)) ρ γ A (σ_fits Σ ok W typed first free C tc p tp φ f.outer_typed f.fixed) γ_fits (type_by_skeletons Σ₁ G A t) ∙ ap (λ s. substitute_type reduce s A) beside_is

  pub known_uses : (A : LfType) → UsesType U A → UsesType U (substitute_type reduce ρ A)
  known_uses A u = substitute_uses_type U U ρ A (σ_uses Σ ok W typed first free C tc p tp φ f.outer_typed f.fixed U (λ i o. either_in (is_given C.given i) o)) u

  abbrev P : LfType
  P = placed_type p φ

  binders_placed : binders [] P ≡ instance D ρ
  binders_placed = binders_substituted p.type ρ [] ∙ onto_nothing (instance D ρ)

  local_context : IsContext Σ₁ (onto D G)
  local_context = subst (IsContext Σ₁) (binders_over [] p.type G) (binders_typed Σ₁ ok₁ p.type G (scope₁ Σ ok W typed first free C tc p tp φ f.outer_typed f.fixed) (type₁ Σ ok W typed first free C tc p tp φ f.outer_typed f.fixed))

  local_is : C.local ≡ instance (binders [] P) γ
  local_is =
      b.local
      ∙ ap (instance D) (sym beside_is)
      ∙ sym (local_twice Σ₁ G H (onto X G) ρ γ (σ_fits Σ ok W typed first free C tc p tp φ f.outer_typed f.fixed) γ_fits D local_context)
      ∙ ap (λ L. instance L γ) (sym binders_placed)

  spine_is : substitute_spine reduce (lift_over D (beside_values C p φ)) (target_arguments p.type) ≡ substitute_spine reduce (lift_over (binders [] P) γ) (target_arguments P)
  spine_is =
      let (L, l, s) = end_typed Σ₁ ok₁ p.type G (type₁ Σ ok W typed first free C tc p tp φ f.outer_typed f.fixed) in
      let k : SpineSkeleton κ (context_skeletons (onto D G)) (target_arguments p.type) (kind_skeleton 0 L) (base 0) = subst (λ E. SpineSkeleton κ (context_skeletons E) (target_arguments p.type) (kind_skeleton 0 L) (base 0)) (binders_over [] p.type G) (kind_spine_has_skeleton Σ₁ 0 (binders G p.type) (target_arguments p.type) L s) in
      let w = σ_fits Σ ok W typed first free C tc p tp φ f.outer_typed f.fixed in
      ap (λ s. substitute_spine reduce (lift_over D s) (target_arguments p.type)) (sym beside_is)
      ∙ sym (substitutions_compose_spine κ (context_skeletons (onto D G)) (context_skeletons (onto (instance D ρ) H)) (context_skeletons (onto (instance (instance D ρ) γ) (onto X G))) (lift_over D ρ) (lift_over D γ) (target_arguments p.type) (kind_skeleton 0 L) (base 0) (first_under Σ₁ G H (onto X G) ρ γ w γ_fits D) (lifted_instance Σ₁ H (onto X G) D ρ γ γ_fits) k ∙ ap (λ s. substitute_spine reduce s (target_arguments p.type)) (after_over D ρ γ))
      ∙ ap (substitute_spine reduce (lift_over D γ)) (sym (arguments_under [] p.type ρ))
      ∙ ap (λ s. substitute_spine reduce s (target_arguments P)) (sym (ap (λ L. lift_over L γ) binders_placed ∙ lift_instance D ρ γ))

  -- Under such values the case is typed as the goal of the pattern is.
  pub goal_under : (s : ℕ → Image) → SameOn U γ s → TypedGoal Σ₁ X s P C.arguments
  goal_under s h = goal_is_typed Σ₁ ok₁ X (scope p.clause) U γ s h C.arguments [] P b.kind (ap Σ.kinds (target_of reduce ρ p.type) ∙ b.of_family) (goal_uses U U ρ (other_places C.arguments) p.type (σ_uses Σ ok W typed first free C tc p tp φ f.outer_typed f.fixed U (λ i o. either_in (is_given C.given i) o)) others) (subst (λ L. HaveSkeletons κ (context_skeletons (onto L X)) C.arguments) local_is tc.arguments) (subst (λ T. TypedArguments Σ₁ (onto (instance (binders [] P) γ) (onto X (scope p.clause))) C.arguments T b.kind) spine_is (subst (λ L. TypedArguments Σ₁ (onto L (onto X (scope p.clause))) C.arguments (substitute_spine reduce (lift_over D (beside_values C p φ)) (target_arguments p.type)) b.kind) local_is b.arguments))
