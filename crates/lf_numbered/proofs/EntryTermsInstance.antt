-- A case by number that matches a pattern with what is tried put in is an instance of it, where what is read off is typed.
use Rattle.std.proofs.Common.{◌≡◌, ℕ, List, [], length, refl, sym, ap, ◌∙◌, subst}
use Rattle.std.specs.Prelude.{Bool, true, false, Some}
use Rattle.lf.specs.Syntax.{Term, LfType, Skeleton, skeleton}
use Rattle.lf.specs.Substitution.{Image, put, substitute_type, reduce, after}
use Rattle.lf.specs.Entries.{quantifiers}
use Rattle.lf.specs.SkeletonTyping.{TermSkeleton}
use Rattle.lf.specs.Skeletons.{constant_skeletons, context_skeletons}
use Rattle.lf.specs.Typing.{Signature, TypeAt, ImageHasType, HasType, IsType, IsSignature}
use Rattle.lf.specs.Variables.{target_arguments, binders, everything, nothing, UsesType}
use Rattle.lf.specs.Subordination.{Block, AreTypedBlocks}
use Rattle.lf.specs.Worlds.{lift_over}
use Rattle.lf.proofs.Agreement.{agree_on_type}
use Rattle.lf.proofs.Kept.{typed_uses_type}
use Rattle.lf.proofs.Patch.{patch}
use Rattle.lf.proofs.TypeLaws.{skeleton_substituted}
use Rattle.lf.proofs.Weakening.{declared_is_type}
use Rattle.lf_checks.specs.Clause.{scope, outside}
use Rattle.lf_checks.specs.Ground.{UsesGoal}
use Rattle.lf_checks.specs.Parts.{type_at}
use Rattle.lf_checks.specs.Worlded.{IsTerm}
use Rattle.lf_cases.specs.Case.{covered_places}
use Rattle.lf_cases.specs.Cover.{AreTerms}
use Rattle.lf_cases.specs.Pattern.{Pattern, given_at, is_given, ground_in}
use Rattle.lf_totality.proofs.Core.{out_index, outer_at}
use Rattle.lf_totality.proofs.OutputCases.{in_context, in_covers}
use Rattle.lf_totality.proofs.Theorem.{outside_from}
use Rattle.lf_coverage.specs.OrElse.{or_else}
use Rattle.lf_coverage.specs.Leaf.{IsTypedPattern}
use Rattle.lf_coverage.specs.Matching.{ArePlaces, HoldsTypes, found_goal}
use Rattle.lf_coverage.proofs.Choices.{decided}
use Rattle.lf_coverage.proofs.ClauseValues.{out_type}
use Rattle.lf_coverage.proofs.Leaves.{given_is}
use Rattle.lf_coverage.proofs.Matched.{own_type, type_third}
use Rattle.lf_coverage.proofs.Matching.{found_is}
use Rattle.lf_numbered.specs.EntryConstants.{with_entries, IsFreeFrom}
use Rattle.lf_numbered.specs.EntryPatterns.{IsInstanceOfPattern}
use Rattle.lf_numbered.specs.EntryPatternsMatching.{placed_type, found_placed, placed_values}
use Rattle.lf_numbered.specs.EntryTerms.{IsTried, own_values}
use Rattle.lf_numbered.specs.NumberedCase.{NumberedCase}
use Rattle.lf_numbered.specs.OwnTerms.{blocks_of, own_terms, ImageOnOwnTerms}
use Rattle.lf_numbered.specs.TypedNumbered.{IsTypedNumberedCase}
use Rattle.lf_numbered.proofs.EntryPatternsDecided.{image_own}
use Rattle.lf_numbered.proofs.EntryPatternsMatching.{more_type}
use Rattle.lf_numbered.proofs.EntryTermsOwn.{found_placed_own}
use Rattle.lf_numbered.proofs.EntryTermsPlaced.{Z, scope_is, own_is, own_is_value, outer_is, there, composed, third, same_on, both_places}
use Rattle.lf_numbered.proofs.EntryTermsTried.{OuterFacts, tried_facts, tried_stands}
use mathlib.Core.Path.{fun_ext}

module _ (Σ : Signature) (ok : IsSignature Σ) (W : List Block) (typed : AreTypedBlocks Σ W) (first : ℕ) (free : IsFreeFrom Σ first) (C : NumberedCase) (tc : IsTypedNumberedCase Σ first W C) (p : Pattern) (tp : IsTypedPattern Σ p) (φ : ℕ → Image) (tried : IsTried first C p.origin p.at_first φ) where
  abbrev f : OuterFacts Σ ok W typed first free C tc p.clause φ
  f = tried_facts Σ ok W typed first free C tc p.origin p.at_first φ tried

  abbrev V : ℕ → Bool
  V = ground_in p (covered_places C.arguments) C.given

  abbrev τ : ℕ → Image
  τ = placed_values C p φ

  abbrev Σ₁ : Signature
  Σ₁ = with_entries Σ first (blocks_of C.blocks)

  abbrev pub ρ : ℕ → Image
  ρ = lift_over (binders [] p.clause.type) φ

  abbrev pub ν : ℕ → Image
  ν = patch (ground_in p (covered_places C.arguments) C.given) C.variables (own_values C p φ)

  module _ (given_own : (i : ℕ) → is_given C.given i ≡ true → outside p.clause.type everything i ≡ false) (size : length C.local ≡ quantifiers p.type) (g : UsesGoal (ground_in p (covered_places C.arguments) C.given) (covered_places C.arguments) p.type) (ft : AreTerms p.clause (ground_in p (covered_places C.arguments) C.given) (own_values C p φ)) (same : ArePlaces C.arguments (target_arguments (substitute_type reduce (own_values C p φ) (placed_type p φ)))) (skel : (i : ℕ) (A : LfType) (N : Term) → TypeAt (scope p.clause) i A → outside p.clause.type everything i ≡ false → ground_in p (covered_places C.arguments) C.given i ≡ true → found_placed C p φ i ≡ Some N → TermSkeleton (constant_skeletons (with_entries Σ first (blocks_of C.blocks))) (context_skeletons C.variables) N (skeleton A)) (cl : HoldsTypes (ground_in p (covered_places C.arguments) C.given) (scope p.clause)) (val : (i : ℕ) (A : LfType) (N : Term) → TypeAt (scope p.clause) i A → outside p.clause.type everything i ≡ false → ground_in p (covered_places C.arguments) C.given i ≡ true → found_placed C p φ i ≡ Some N → HasType (with_entries Σ first (blocks_of C.blocks)) C.variables N (substitute_type reduce ν (substitute_type reduce ρ A))) where
    -- a type that what is ground holds, with both put in at once
    at_once : (i : ℕ) (A : LfType) → TypeAt (scope p.clause) i A → V i ≡ true → substitute_type reduce ν (substitute_type reduce ρ A) ≡ substitute_type reduce (placed_values C p φ) A
    at_once i A h u =
        let t = declared_is_type Σ ok (scope p.clause) i A tp.clause_typed h in
        let z : UsesType (Z Σ ok W typed first free C tc p tp φ f.outer_typed f.fixed g ft same skel) A = type_third V (in_context (scope p.clause)) (Z Σ ok W typed first free C tc p tp φ f.outer_typed f.fixed g ft same skel) (third Σ ok W typed first free C tc p tp φ f.outer_typed f.fixed g ft same skel) A (cl i A h u) (typed_uses_type Σ (scope p.clause) (in_context (scope p.clause)) A (in_covers (scope p.clause)) t) in
        composed Σ ok W typed first free C tc p tp φ f.outer_typed f.fixed g ft same skel A (subst (λ G. IsType Σ₁ G A) (scope_is Σ ok W typed first free C tc p tp φ f.outer_typed f.fixed) (more_type Σ ok W typed first free C tc (scope p.clause) A t))
        ∙ agree_on_type reduce (Z Σ ok W typed first free C tc p tp φ f.outer_typed f.fixed g ft same skel) (after ν ρ) τ A (same_on Σ ok W typed first free C tc p tp φ f.outer_typed f.fixed g ft same skel) z

    value_is : (i : ℕ) (A : LfType) (N : Term) → TypeAt (scope p.clause) i A → outside p.clause.type everything i ≡ false → found_placed C p φ i ≡ Some N → placed_values C p φ i ≡ put (skeleton A) N
    value_is i A N h o q = own_is_value Σ ok W typed first free C tc p tp φ f.outer_typed f.fixed i o ∙ own_is Σ ok W typed first free C tc p tp φ f.outer_typed f.fixed i o ∙ found_is i (scope p.clause) A (found_placed C p φ i) N h q

    outer_value : (l : ℕ) → placed_values C p φ (out_index p.clause.type l) ≡ φ l
    outer_value l = outer_is Σ ok W typed first free C tc p tp φ f.outer_typed f.fixed l

    value_typed : (i : ℕ) (A : LfType) → TypeAt (scope p.clause) i A → V i ≡ true → ImageHasType Σ₁ C.variables (placed_values C p φ i) (substitute_type reduce (placed_values C p φ) A)
    value_typed i A h u = decided (outside p.clause.type everything i)
        (λ o.
        let (l, e, y) = outside_from p.clause.type everything i o in
        let (B, t, s, q) = out_type p.clause.type p.clause.outer l A (subst (λ j. TypeAt (scope p.clause) j A) e h) in
        subst (ImageHasType Σ₁ C.variables (τ i)) (sym (q τ ∙ ap (λ s. substitute_type reduce s B) (fun_ext outer_value))) (subst (λ y. ImageHasType Σ₁ C.variables y (substitute_type reduce φ B)) (sym (ap τ e ∙ outer_value l)) (f.outer_typed l B t)))
        (λ o.
        let (N, q) = there Σ ok W typed first free C tc p tp φ f.outer_typed f.fixed g ft same skel i A h o u in
        subst (λ y. ImageHasType Σ₁ C.variables y (substitute_type reduce τ A)) (sym (value_is i A N h o q)) (skeleton_substituted reduce τ A, subst (HasType Σ₁ C.variables N) (at_once i A h u) (val i A N h o u q)))

    value_own : (i : ℕ) → V i ≡ true → ImageOnOwnTerms (own_terms first C.blocks) (placed_values C p φ i)
    value_own i u = decided (outside p.clause.type everything i)
        (λ o. let (l, e, y) = outside_from p.clause.type everything i o in subst (ImageOnOwnTerms (own_terms first C.blocks)) (sym (ap τ e ∙ outer_value l)) (f.own l))
        (λ o. subst (ImageOnOwnTerms (own_terms first C.blocks)) (sym (own_is_value Σ ok W typed first free C tc p tp φ f.outer_typed f.fixed i o ∙ own_is Σ ok W typed first free C tc p tp φ f.outer_typed f.fixed i o)) (image_own (own_terms first C.blocks) i (type_at (scope p.clause) i) (found_placed C p φ i) (λ N q. found_placed_own (own_terms first C.blocks) C p φ i N size tc.given_on_own tc.arguments_on_own q)))

    given_value : (i : ℕ) (M : Term) → V i ≡ true → given_at C.given i ≡ Some M → (a : Skeleton) × (placed_values C p φ i ≡ put a M)
    given_value i M u q =
        let o = given_own i (given_is C.given i M q) in
        let (A, h) = own_type p.clause i o in
        (skeleton A, value_is i A M h o (ap (λ x. or_else x (found_goal nothing nothing 0 i (placed_type p φ) C.arguments)) q))

    matched_instance : IsInstanceOfPattern Σ first C p
    matched_instance = record {
      used = ground_in p (covered_places C.arguments) C.given;
      values = placed_values C p φ;
      typed = record { typed = value_typed; closed = cl };
      on_own_terms = value_own;
      uses = g;
      strict = g;
      terms = λ i o u. subst IsTerm (sym (own_is_value Σ ok W typed first free C tc p tp φ f.outer_typed f.fixed i o)) (ft i o u);
      given = given_value;
      stands = tried_stands first C p.origin p.at_first φ τ tried (λ k. outer_at p.clause.type τ k ∙ outer_value k);
      same = both_places Σ ok W typed first free C tc p tp φ f.outer_typed f.fixed g ft same skel;
    }

    -- A case that matches is an instance, by the values that matching finds.
    pub matched_found : (h : IsInstanceOfPattern Σ first C p) × (h.values ≡ placed_values C p φ)
    unfolding matched_instance
    matched_found = (matched_instance, refl)
