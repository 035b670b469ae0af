-- Matching with patterns of constants' clauses over the signature with entries finds the values of an instance.
use Rattle.std.proofs.Common.{◌≡◌, ℕ, zero, List, [], ◌∷◌, refl, sym, ap, ◌∙◌, subst}
use Rattle.std.specs.Prelude.{Bool, true, false, Option, Some, None}
use Rattle.lf.specs.Syntax.{Term, LfType, Skeleton, skeleton}
use Rattle.lf.specs.Substitution.{put, substitute_type, reduce}
use Rattle.lf.specs.SkeletonTyping.{SubstitutionBySkeletons}
use Rattle.lf.specs.Skeletons.{constant_skeletons, context_skeletons}
use Rattle.lf.specs.Typing.{Signature, TypeAt, ImageHasType, IsType, IsContext, IsSignature}
use Rattle.lf.specs.Variables.{target_arguments, SameOn, everything, nothing}
use Rattle.lf.specs.Subordination.{Block, AreTypedBlocks}
use Rattle.lf.proofs.Checker.{both_of}
use Rattle.lf.proofs.Growth.{growth_keeps_types}
use Rattle.lf.proofs.Kept.{typed_uses_type}
use Rattle.lf.proofs.Partial.{skeletons_beside, PartialSubstitution, uses_all}
use Rattle.lf.proofs.Patch.{patch, patch_same, patched}
use Rattle.lf.proofs.ToSkeletons.{variable_has_skeleton}
use Rattle.lf.proofs.TypeLaws.{skeleton_substituted}
use Rattle.lf_checks.specs.Clause.{scope, outside}
use Rattle.lf_checks.specs.Strict.{strict_goal}
use Rattle.lf_checks.specs.Tests.{both}
use Rattle.lf_checks.specs.Worlded.{IsTerm}
use Rattle.lf_checks.proofs.Determined.{KeptAlike}
use Rattle.lf_checks.proofs.EtaTest.{both_l, both_r}
use Rattle.lf_cases.specs.Cover.{AreTerms}
use Rattle.lf_cases.specs.Case.{covered_places}
use Rattle.lf_cases.specs.Pattern.{Pattern, is_given, given_at, ground_in}
use Rattle.lf_cases.proofs.Raised.{rename_identity}
use Rattle.lf_cases.proofs.StrictUsed.{goal_used}
use Rattle.lf_totality.proofs.OutputCases.{in_context, in_covers, in_type}
use Rattle.lf_coverage.specs.OrElse.{or_else}
use Rattle.lf_coverage.specs.Leaf.{IsTypedPattern}
use Rattle.lf_coverage.specs.Matching.{ArePlaces, MatchesByTerms, found_goal, found_term, found_values}
use Rattle.lf_coverage.specs.MeetStore.{IsConstants}
use Rattle.lf_coverage.proofs.Carried.{beside_nothing}
use Rattle.lf_coverage.proofs.Choices.{decided}
use Rattle.lf_coverage.proofs.Matched.{Third, goal_third, goal_part, given_there, given_found, own_type}
use Rattle.lf_coverage.proofs.Matching.{none_fixed, is_own, goal_agrees, term_of, not_given, ground_is_strict, found_is}
use Rattle.lf_coverage.proofs.ReadOff.{goal_read}
use Rattle.lf_numbered.specs.EntryConstants.{with_entries, IsFreeFrom}
use Rattle.lf_numbered.specs.EntryPatterns.{IsInstanceOfPattern}
use Rattle.lf_numbered.specs.EntryPatternsMatching.{NumberedInstanceIsFound, NumberedInstanceMatches}
use Rattle.lf_numbered.specs.NumberedCase.{NumberedCase}
use Rattle.lf_numbered.specs.OwnStores.{as_case}
use Rattle.lf_numbered.specs.OwnTerms.{blocks_of, own_terms}
use Rattle.lf_numbered.specs.TypedNumbered.{IsTypedNumberedCase}
use Rattle.lf_numbered.proofs.EntrySignature.{entries_kept, with_entries_is_signature}
use Rattle.lf_numbered.proofs.NumberedTypedFree.{among_worlds}

module _ (Σ : Signature) (ok : IsSignature Σ) (W : List Block) (typed : AreTypedBlocks Σ W) (first : ℕ) (free : IsFreeFrom Σ first) (C : NumberedCase) (tc : IsTypedNumberedCase Σ first W C) where
  abbrev Σ₁ : Signature
  Σ₁ = with_entries Σ first (blocks_of C.blocks)

  pub entries_signature : IsSignature (with_entries Σ first (blocks_of C.blocks))
  entries_signature = with_entries_is_signature Σ ok first free (blocks_of C.blocks) (λ B m. typed B (among_worlds Σ ok W typed first free Σ₁ C.variables (own_terms first C.blocks) C.blocks tc.variables.blocks B m))

  pub more_type : (D : List LfType) (A : LfType) → IsType Σ D A → IsType (with_entries Σ first (blocks_of C.blocks)) D A
  more_type D A t = growth_keeps_types Σ Σ₁ (entries_kept Σ first (blocks_of C.blocks)) (λ b K q. q) D A t

  pub more_context : (D : List LfType) → IsContext Σ D → IsContext (with_entries Σ first (blocks_of C.blocks)) D
  more_context [] c = c
  more_context (A ∷ D) (c, a) = (more_context D c, more_type D A a)

  module _ (p : Pattern) (tp : IsTypedPattern Σ p) (k : IsConstants p.origin) (h : IsInstanceOfPattern Σ first C p) where
    abbrev V : ℕ → Bool
    V = ground_in p (covered_places C.arguments) C.given

    context₁ : IsContext Σ₁ (scope p.clause)
    context₁ = more_context (scope p.clause) tp.clause_typed

    whole : PartialSubstitution Σ₁ entries_signature [] (skeletons_beside [] (scope p.clause)) h.used (scope p.clause) C.variables (patch h.used C.variables h.values)
    whole = patched Σ₁ entries_signature h.used (scope p.clause) C.variables h.values context₁ tc.variables.variables h.typed

    whole_fits : SubstitutionBySkeletons (constant_skeletons Σ₁) (context_skeletons (scope p.clause)) (skeletons_beside (skeletons_beside [] (scope p.clause)) C.variables) (patch h.used C.variables h.values)
    whole_fits = subst (λ Γ. SubstitutionBySkeletons (constant_skeletons Σ₁) Γ (skeletons_beside (skeletons_beside [] (scope p.clause)) C.variables) (patch h.used C.variables h.values)) (beside_nothing (scope p.clause)) whole.sk

    fixed_kept : KeptAlike (outside p.clause.type p.clause.fixed) (patch h.used C.variables h.values) (patch h.used C.variables h.values)
    fixed_kept j b = absurd (none_fixed p.origin k j b)

    -- what is read off
    read : (i : ℕ) (A : LfType) (N : Term) → TypeAt (scope p.clause) i A → h.used i ≡ true → h.values i ≡ put (skeleton A) N → strict_goal (covered_places C.arguments) nothing (outside p.clause.type p.clause.fixed) i p.type ≡ true → found_goal nothing (outside p.clause.type p.clause.fixed) zero i p.type C.arguments ≡ Some N
    read i A N g u q z =
        goal_read Σ₁ entries_signature nothing (outside p.clause.type p.clause.fixed) everything zero (scope p.clause) (skeletons_beside (skeletons_beside [] (scope p.clause)) C.variables) (patch h.used C.variables h.values) i (skeleton A) N p.type C.arguments context₁ (more_type (scope p.clause) p.type tp.type_typed) whole_fits (λ j b. absurd cc) fixed_kept (λ j v b. cc) (λ j b. cc) (sym (patch_same h.used C.variables h.values i u) ∙ q) (uses_all everything N (λ j. refl)) (variable_has_skeleton (scope p.clause) i A g) z (goal_agrees h.used h.values (patch h.used C.variables h.values) (patch_same h.used C.variables h.values) C.arguments p.type h.uses h.same)
        ∙ ap Some (rename_identity N)

    -- The lemma
    pub numbered_value_found : (i : ℕ) (A : LfType) → TypeAt (scope p.clause) i A → h.used i ≡ true → ground_in p (covered_places C.arguments) C.given i ≡ true → h.values i ≡ found_values (as_case C) p i
    numbered_value_found i A g u z =
        let o = is_own p.origin k i A g in
        let (a, N, q) = term_of (h.values i) (h.terms i o u) in
        let sa : skeleton A ≡ a = sym (skeleton_substituted reduce h.values A) ∙ (subst (λ y. ImageHasType Σ₁ C.variables y (substitute_type reduce h.values A)) q (h.typed.typed i A g u)).0 in
        let q' : h.values i ≡ put (skeleton A) N = q ∙ ap (λ b. put b N) (sym sa) in
        q' ∙ sym (found_is i (scope p.clause) A (found_term (as_case C) p i) N g (by N q' (given_at C.given i) refl o))
      where
        term_is : {a b : Skeleton} {M N : Term} → put a M ≡ put b N → M ≡ N
        term_is e = cc

        by : (N : Term) → h.values i ≡ put (skeleton A) N → (m : Option Term) → given_at C.given i ≡ m → outside p.clause.type everything i ≡ false → found_term (as_case C) p i ≡ Some N
        by N q (Some M) r o =
            let (b, e) = h.given i M u r in
            ap (λ x. or_else x (found_goal nothing (outside p.clause.type p.clause.fixed) zero i p.type C.arguments)) r ∙ ap Some (sym (term_is (sym q ∙ e)))
        by N q None r o = ap (λ x. or_else x (found_goal nothing (outside p.clause.type p.clause.fixed) zero i p.type C.arguments)) r ∙ read i A N g u q (ground_is_strict p (covered_places C.arguments) C.given i (not_given C.given i r) o z)

    -- the variables of the scope that are used and ground
    abbrev Y : ℕ → Bool
    Y i = both (both (h.used i) (ground_in p (covered_places C.arguments) C.given i)) (in_context (scope p.clause) i)

    found_on : SameOn (λ i. both (both (h.used i) (ground_in p (covered_places C.arguments) C.given i)) (in_context (scope p.clause) i)) h.values (found_values (as_case C) p)
    found_on i x =
        let (A, g) = in_type (scope p.clause) i (both_r (both (h.used i) (V i)) (in_context (scope p.clause) i) x) in
        let y = both_l (both (h.used i) (V i)) (in_context (scope p.clause) i) x in
        numbered_value_found i A g (both_l (h.used i) (V i) y) (both_r (h.used i) (V i) y)

    two : Third h.used (ground_in p (covered_places C.arguments) C.given) (λ i. both (h.used i) (ground_in p (covered_places C.arguments) C.given i))
    two i u v = both_of (h.used i) (V i) u v

    three : Third (λ i. both (h.used i) (ground_in p (covered_places C.arguments) C.given i)) (in_context (scope p.clause)) (λ i. both (both (h.used i) (ground_in p (covered_places C.arguments) C.given i)) (in_context (scope p.clause) i))
    three i u v = both_of (both (h.used i) (V i)) (in_context (scope p.clause) i) u v

    -- what is ground and not given is used
    used_here : (i : ℕ) → outside p.clause.type everything i ≡ false → is_given C.given i ≡ false → V i ≡ true → h.used i ≡ true
    used_here i o n v = goal_used h.used (covered_places C.arguments) nothing (outside p.clause.type p.clause.fixed) i p.type h.uses (ground_is_strict p (covered_places C.arguments) C.given i n o v)

    found_terms : AreTerms p.clause (ground_in p (covered_places C.arguments) C.given) (found_values (as_case C) p)
    found_terms i o v =
        let (A, g) = own_type p.clause i o in
        decided (is_given C.given i)
        (λ u. let (M, q) = given_there C.given i u in subst IsTerm (sym (given_found (as_case C) p i A M g q)) tt)
        (λ n. let u = used_here i o n v in subst IsTerm (numbered_value_found i A g u v) (h.terms i o u))

    same_places : ArePlaces C.arguments (target_arguments (substitute_type reduce (found_values (as_case C) p) p.type))
    same_places = goal_agrees Y h.values (found_values (as_case C) p) found_on C.arguments p.type (goal_third (λ j. both (h.used j) (V j)) (in_context (scope p.clause)) Y three (covered_places C.arguments) p.type (goal_third h.used V (λ j. both (h.used j) (V j)) two (covered_places C.arguments) p.type h.uses h.strict) (goal_part (in_context (scope p.clause)) (covered_places C.arguments) p.type (typed_uses_type Σ (scope p.clause) (in_context (scope p.clause)) p.type (in_covers (scope p.clause)) tp.type_typed))) h.same

    pub numbered_matches : MatchesByTerms (as_case C) p
    numbered_matches = (h.strict, found_terms, same_places)

pub numbered_instance_is_found : NumberedInstanceIsFound
numbered_instance_is_found Σ ok W typed first free C tc p tp k h i A g u z = numbered_value_found Σ ok W typed first free C tc p tp k h i A g u z

pub numbered_instance_matches : NumberedInstanceMatches
numbered_instance_matches Σ ok W typed first free C tc p tp k h = numbered_matches Σ ok W typed first free C tc p tp k h
