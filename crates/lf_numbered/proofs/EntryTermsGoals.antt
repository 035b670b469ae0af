-- What is read off a case by number that is typed beside a pattern with what is tried put in is typed. So the case is an instance of the pattern.
use Rattle.std.proofs.Common.{◌≡◌, ℕ, zero, List, [], length, refl, sym, ap, ◌∙◌, subst}
use Rattle.std.specs.Prelude.{Bool, true, false, Option, Some, None}
use Rattle.lf.specs.Syntax.{Term, LfType, skeleton}
use Rattle.lf.specs.Substitution.{Image, put, substitute_type, reduce}
use Rattle.lf.specs.SkeletonTyping.{SkeletonAt, TermSkeleton}
use Rattle.lf.specs.Skeletons.{constant_skeletons, family_skeletons, context_skeletons}
use Rattle.lf.specs.Typing.{Signature, TypeAt, ImageHasType, HasType, IsType, IsSignature}
use Rattle.lf.specs.Variables.{target_arguments, binders, onto, nothing, everything, UsesType}
use Rattle.lf.specs.Subordination.{Block, AreTypedBlocks}
use Rattle.lf.specs.Worlds.{lift_over}
use Rattle.lf.proofs.Agreement.{agree_on_type}
use Rattle.lf.proofs.Partial.{uses_all, uses_type_all}
use Rattle.lf.proofs.Patch.{patch, patch_same}
use Rattle.lf.proofs.ToSkeletons.{type_by_skeletons, typed_has_skeleton, variable_has_skeleton}
use Rattle.lf.proofs.TypeLaws.{skeleton_substituted}
use Rattle.lf.proofs.Weakening.{declared_is_type}
use Rattle.lf_checks.specs.Clause.{scope, variables, outside}
use Rattle.lf_checks.specs.Ground.{UsesGoal, ground_after}
use Rattle.lf_checks.specs.Strict.{strict_goal}
use Rattle.lf_checks.specs.Tests.{both, either}
use Rattle.lf_cases.specs.Case.{covered_places}
use Rattle.lf_cases.specs.Cover.{AreTerms}
use Rattle.lf_cases.specs.Pattern.{Pattern, given_at, is_given, ground_in}
use Rattle.lf_cases.proofs.GroundTypes.{either_left, after_closed}
use Rattle.lf_cases.proofs.OutputItems.{length_instance}
use Rattle.lf_totality.proofs.OutputCases.{either_in}
use Rattle.lf_coverage.specs.OrElse.{or_else}
use Rattle.lf_coverage.specs.Leaf.{IsTypedPattern}
use Rattle.lf_coverage.specs.Matching.{ArePlaces, HoldsTypes, found_goal, other_places}
use Rattle.lf_coverage.proofs.Choices.{decided}
use Rattle.lf_coverage.proofs.GoalTyped.{all_of_goal, goal_skeleton, goal_typed}
use Rattle.lf_coverage.proofs.GroundHolds.{either_three, outputs_are, outputs_at}
use Rattle.lf_coverage.proofs.Leaves.{given_is}
use Rattle.lf_coverage.proofs.Matching.{found_is, ground_is_strict}
use Rattle.lf_numbered.specs.EntryConstants.{with_entries, IsFreeFrom}
use Rattle.lf_numbered.specs.EntryPatterns.{IsInstanceOfPattern}
use Rattle.lf_numbered.specs.EntryPatternsMatching.{placed_type, found_placed, placed_values}
use Rattle.lf_numbered.specs.EntryTerms.{IsTried, own_values, beside_values, known_in, IsTypedBesideWith}
use Rattle.lf_numbered.specs.EntryTermsLaws.{GoalMatchIsNumberedInstance}
use Rattle.lf_numbered.specs.NumberedCase.{NumberedCase}
use Rattle.lf_numbered.specs.OwnTerms.{blocks_of}
use Rattle.lf_numbered.specs.TypedNumbered.{IsTypedNumberedCase}
use Rattle.lf_numbered.proofs.EntryPatternsNear.{binders_count}
use Rattle.lf_numbered.proofs.EntryPatternsMatching.{entries_signature, more_type}
use Rattle.lf_numbered.proofs.EntryPatternsStrict.{strict_goal_put}
use Rattle.lf_numbered.proofs.EntryTermsBeside.{γ, beside_own, known_found, known_ground, known_patched, known_type, known_uses, goal_under}
use Rattle.lf_numbered.proofs.EntryTermsInstance.{matched_found}
use Rattle.lf_numbered.proofs.EntryTermsPlaced.{K, O, R, σ, context₁, own_is, own_placed, placed₁, places, scope_is, type₁, ν_fits, ν_places}
use Rattle.lf_numbered.proofs.EntryTermsTried.{OuterFacts, tried_facts}
use mathlib.Core.Path.{fun_ext}

module _ (Σ : Signature) (ok : IsSignature Σ) (W : List Block) (typed : AreTypedBlocks Σ W) (first : ℕ) (free : IsFreeFrom Σ first) (C : NumberedCase) (tc : IsTypedNumberedCase Σ first W C) (p : Pattern) (tp : IsTypedPattern Σ p) (own_given : (i : ℕ) → is_given C.given i ≡ true → outside p.clause.type everything i ≡ false) (others : UsesGoal (known_in C p) (other_places C.arguments) p.type) (φ : ℕ → Image) (tried : IsTried first C p.origin p.at_first φ) (b : IsTypedBesideWith Σ first C p φ) where
  abbrev V : ℕ → Bool
  V = ground_in p (covered_places C.arguments) C.given

  -- What is ground holds its types.
  pub ground_holds : UsesGoal (ground_in p (covered_places C.arguments) C.given) (covered_places C.arguments) p.type → HoldsTypes (ground_in p (covered_places C.arguments) C.given) (scope p.clause)
  ground_holds g =
      let m : List Bool = covered_places C.arguments in
      let U : ℕ → Bool = known_in C p in
      let e : (λ i. either (either (is_given C.given i) (outside p.clause.type everything i)) (both (variables p.clause i) (strict_goal m nothing (outside p.clause.type p.clause.fixed) i p.type))) ≡ ground_in p m C.given = fun_ext (λ i. either_three (is_given C.given i) (outside p.clause.type everything i) (both (variables p.clause i) (strict_goal m nothing (outside p.clause.type p.clause.fixed) i p.type))) in
      let q : ground_after (λ a. outputs_at m) p.clause p.type U ≡ ground_in p m C.given = ap (λ c i. either (U i) (both (variables p.clause i) (strict_goal c nothing (outside p.clause.type p.clause.fixed) i p.type))) (outputs_are m) ∙ e in
      subst (λ Y. UsesType Y p.type → HoldsTypes Y (scope p.clause)) q (λ w. after_closed Σ ok (λ a. outputs_at m) p.clause U p.type tp.clause_typed tp.type_typed (λ i o. either_in (is_given C.given i) o) b.given.closed w) (all_of_goal (with_entries Σ first (blocks_of C.blocks)) (onto C.local (onto C.variables (scope p.clause))) U V (known_ground Σ ok W typed first free C tc p tp own_given others φ tried b) (lift_over (binders [] p.type) (beside_values C p φ)) C.arguments p.type b.kind b.arguments g others)

  module _ (g : UsesGoal (ground_in p (covered_places C.arguments) C.given) (covered_places C.arguments) p.type) (ft : AreTerms p.clause (ground_in p (covered_places C.arguments) C.given) (own_values C p φ)) (same : ArePlaces C.arguments (target_arguments (substitute_type reduce (own_values C p φ) (placed_type p φ)))) where
    abbrev Σ₁ : Signature
    Σ₁ = with_entries Σ first (blocks_of C.blocks)

    ok₁ : IsSignature Σ₁
    ok₁ = entries_signature Σ ok W typed first free C tc

    f : OuterFacts Σ ok W typed first free C tc p.clause φ
    f = tried_facts Σ ok W typed first free C tc p.origin p.at_first φ tried

    abbrev ρ : ℕ → Image
    ρ = σ Σ ok W typed first free C tc p tp φ f.outer_typed f.fixed

    abbrev D : List LfType
    D = K Σ ok W typed first free C tc p tp φ f.outer_typed f.fixed

    abbrev G : List LfType
    G = O Σ ok W typed first free C tc p tp φ f.outer_typed f.fixed

    abbrev ν : ℕ → Image
    ν = patch V C.variables (own_values C p φ)

    strictly : (i : ℕ) → outside p.clause.type everything i ≡ false → V i ≡ true → is_given C.given i ≡ false → strict_goal (covered_places C.arguments) nothing nothing i (placed_type p φ) ≡ true
    strictly i o u z = strict_goal_put (constant_skeletons Σ₁) (family_skeletons Σ₁) (covered_places C.arguments) nothing (outside p.clause.type p.clause.fixed) nothing i (context_skeletons G) (context_skeletons D) ρ p.type (places Σ ok W typed first free C tc p tp φ f.outer_typed f.fixed i o) (type_by_skeletons Σ₁ G p.type (type₁ Σ ok W typed first free C tc p tp φ f.outer_typed f.fixed)) (ground_is_strict p (covered_places C.arguments) C.given i z o u)

    not_there : (i : ℕ) → is_given C.given i ≡ false → given_at C.given i ≡ None
    not_there i z = by (given_at C.given i) refl
      where
        no : false ≡ true → ⊥
        no e = cc

        by : (m : Option Term) → given_at C.given i ≡ m → given_at C.given i ≡ None
        by None e = e
        by (Some M) e = absurd (no (sym z ∙ given_is C.given i M e))

    read : (i : ℕ) (N : Term) → is_given C.given i ≡ false → found_placed C p φ i ≡ Some N → found_goal nothing nothing zero i (placed_type p φ) C.arguments ≡ Some N
    read i N z q = sym (ap (λ x. or_else x (found_goal nothing nothing zero i (placed_type p φ) C.arguments)) (not_there i z)) ∙ q

    in_scope : (i : ℕ) (A : LfType) → TypeAt (scope p.clause) i A → IsType Σ₁ G A
    in_scope i A h = subst (λ E. IsType Σ₁ E A) (scope_is Σ ok W typed first free C tc p tp φ f.outer_typed f.fixed) (more_type Σ ok W typed first free C tc (scope p.clause) A (declared_is_type Σ ok (scope p.clause) i A tp.clause_typed h))

    value_is : (i : ℕ) (A : LfType) (N : Term) → TypeAt (scope p.clause) i A → outside p.clause.type everything i ≡ false → found_placed C p φ i ≡ Some N → own_values C p φ i ≡ put (skeleton A) N
    value_is i A N h o q = own_is Σ ok W typed first free C tc p tp φ f.outer_typed f.fixed i o ∙ found_is i (scope p.clause) A (found_placed C p φ i) N h q

    -- a given term has its type
    given_typed : (i : ℕ) (A : LfType) (N : Term) → TypeAt (scope p.clause) i A → outside p.clause.type everything i ≡ false → is_given C.given i ≡ true → found_placed C p φ i ≡ Some N → HasType Σ₁ C.variables N (substitute_type reduce (beside_values C p φ) A)
    given_typed i A N h o z q = (subst (λ y. ImageHasType Σ₁ C.variables y (substitute_type reduce (beside_values C p φ) A)) (beside_own Σ ok W typed first free C tc p tp own_given others φ tried b i o ∙ known_found Σ ok W typed first free C tc p tp own_given others φ tried b i (either_left (outside p.clause.type everything i) z) ∙ value_is i A N h o q) (b.given.typed i A h (either_left (outside p.clause.type everything i) z))).1

    skel : (i : ℕ) (A : LfType) (N : Term) → TypeAt (scope p.clause) i A → outside p.clause.type everything i ≡ false → V i ≡ true → found_placed C p φ i ≡ Some N → TermSkeleton (constant_skeletons Σ₁) (context_skeletons C.variables) N (skeleton A)
    skel i A N h o u q =
        decided (is_given C.given i)
        (λ z. subst (TermSkeleton (constant_skeletons Σ₁) (context_skeletons C.variables) N) (skeleton_substituted reduce (beside_values C p φ) A) (typed_has_skeleton Σ₁ C.variables N (substitute_type reduce (beside_values C p φ) A) (given_typed i A N h o z q)))
        (λ z. goal_skeleton Σ₁ ok₁ nothing nothing zero D C.variables (context_skeletons C.variables) (own_values C p φ) i (skeleton A) N (placed_type p φ) C.arguments (context₁ Σ ok W typed first free C tc p tp φ f.outer_typed f.fixed) (placed₁ Σ ok W typed first free C tc p tp φ f.outer_typed f.fixed) (λ j s X o g k. absurd cc) (λ j s o g. g) (λ j b. absurd cc) (λ j b. absurd cc) (λ j b. absurd cc) (subst (SkeletonAt (context_skeletons D) i) (skeleton_substituted reduce ρ A) (variable_has_skeleton D i (substitute_type reduce ρ A) (own_placed Σ ok W typed first free C tc p tp φ f.outer_typed f.fixed i A h o))) (goal_under Σ ok W typed first free C tc p tp own_given others φ tried b (own_values C p φ) (known_found Σ ok W typed first free C tc p tp own_given others φ tried b)) same (strictly i o u z) (read i N z q))

    val : (i : ℕ) (A : LfType) (N : Term) → TypeAt (scope p.clause) i A → outside p.clause.type everything i ≡ false → V i ≡ true → found_placed C p φ i ≡ Some N → HasType Σ₁ C.variables N (substitute_type reduce ν (substitute_type reduce ρ A))
    val i A N h o u q =
        decided (is_given C.given i)
        (λ z.
        let γ' : ℕ → Image = γ Σ ok W typed first free C tc p tp own_given others φ tried b in
        let k : substitute_type reduce (beside_values C p φ) A ≡ substitute_type reduce ν (substitute_type reduce ρ A) =
        sym (known_type Σ ok W typed first free C tc p tp own_given others φ tried b A (in_scope i A h))
        ∙ agree_on_type reduce (known_in C p) γ' ν (substitute_type reduce ρ A) (known_patched Σ ok W typed first free C tc p tp own_given others φ tried b) (known_uses Σ ok W typed first free C tc p tp own_given others φ tried b A (b.given.closed i A h (either_left (outside p.clause.type everything i) z))) in
        subst (HasType Σ₁ C.variables N) k (given_typed i A N h o z q))
        (λ z. goal_typed Σ₁ ok₁ (R Σ ok W typed first free C tc p tp φ f.outer_typed f.fixed g ft same skel) nothing nothing everything D C.variables ν i (substitute_type reduce ρ A) (skeleton A) N (placed_type p φ) C.arguments (context₁ Σ ok W typed first free C tc p tp φ f.outer_typed f.fixed) (placed₁ Σ ok W typed first free C tc p tp φ f.outer_typed f.fixed) (ν_fits Σ ok W typed first free C tc p tp φ f.outer_typed f.fixed g ft same skel) (λ j b. absurd cc) (λ j X b k. absurd cc) (λ j b. absurd cc) (λ j v b. cc) (λ j X k v. uses_type_all everything X (λ l. refl)) (sym (patch_same V C.variables (own_values C p φ) i u) ∙ value_is i A N h o q) (uses_all everything N (λ j. refl)) (uses_type_all everything (substitute_type reduce ν (substitute_type reduce ρ A)) (λ j. refl)) (own_placed Σ ok W typed first free C tc p tp φ f.outer_typed f.fixed i A h o) (goal_under Σ ok W typed first free C tc p tp own_given others φ tried b ν (known_patched Σ ok W typed first free C tc p tp own_given others φ tried b)) (ν_places Σ ok W typed first free C tc p tp φ f.outer_typed f.fixed g ft same skel) (strictly i o u z))

    pub goal_found : (h : IsInstanceOfPattern Σ first C p) × (h.values ≡ placed_values C p φ)
    goal_found = matched_found Σ ok W typed first free C tc p tp φ tried own_given (ap length b.local ∙ length_instance (binders [] p.type) (beside_values C p φ) ∙ binders_count p.type) g ft same skel (ground_holds g) val

pub goal_match_is_numbered_instance : GoalMatchIsNumberedInstance
goal_match_is_numbered_instance Σ ok W typed first free C tc p tp own_given others φ tried b (g, ft, same) = goal_found Σ ok W typed first free C tc p tp own_given others φ tried b g ft same
