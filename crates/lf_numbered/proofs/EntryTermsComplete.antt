-- A case by number that is an instance of a pattern matches it by terms, with what its instance has for what stands outside the clause.
use Rattle.std.proofs.Common.{◌≡◌, ℕ, zero, ◌+◌, ◌-◌, List, [], length, sym, ap, ◌∙◌, subst}
use Rattle.std.specs.Prelude.{Bool, true, false, cond, Some}
use Rattle.lf.specs.Syntax.{Term, LfType, skeleton}
use Rattle.lf.specs.Substitution.{Image, keep, put, substitute_type, reduce}
use Rattle.lf.specs.Entries.{quantifiers}
use Rattle.lf.specs.Typing.{Signature, TypeAt, IsSignature}
use Rattle.lf.specs.Variables.{target_arguments, binders, SameOn, everything, nothing}
use Rattle.lf.specs.Subordination.{Block, AreTypedBlocks}
use Rattle.lf.specs.Worlds.{lift_over}
use Rattle.lf.proofs.Checker.{both_of}
use Rattle.lf.proofs.Kept.{typed_uses_type}
use Rattle.lf.proofs.Patch.{pick}
use Rattle.lf_checks.specs.Clause.{scope, outside}
use Rattle.lf_checks.specs.Ground.{UsesGoal}
use Rattle.lf_checks.specs.Parts.{type_at}
use Rattle.lf_checks.specs.Tests.{both, either}
use Rattle.lf_checks.specs.Worlded.{IsTerm}
use Rattle.lf_checks.proofs.EtaTest.{both_l, both_r}
use Rattle.lf_cases.specs.Case.{covered_places}
use Rattle.lf_cases.specs.Cover.{AreTerms}
use Rattle.lf_cases.specs.Pattern.{Pattern, is_given, ground_in}
use Rattle.lf_cases.proofs.GroundTypes.{either_left}
use Rattle.lf_cases.proofs.StrictUsed.{goal_used}
use Rattle.lf_totality.proofs.Core.{out_index, outside_at}
use Rattle.lf_totality.proofs.OutputCases.{in_context, in_covers, in_type, either_in}
use Rattle.lf_totality.proofs.Theorem.{outside_from}
use Rattle.lf_coverage.specs.OrElse.{or_else}
use Rattle.lf_coverage.specs.Leaf.{IsTypedPattern}
use Rattle.lf_coverage.specs.Matching.{ArePlaces, as_image, found_goal}
use Rattle.lf_coverage.proofs.Choices.{decided, second_of}
use Rattle.lf_coverage.proofs.ClauseValues.{out_back}
use Rattle.lf_coverage.proofs.Matched.{Third, given_there, goal_part, goal_third, own_type}
use Rattle.lf_coverage.proofs.Matching.{found_is, goal_agrees, ground_is_strict}
use Rattle.lf_numbered.specs.EntryConstants.{IsFreeFrom}
use Rattle.lf_numbered.specs.EntryPatterns.{IsInstanceOfPattern}
use Rattle.lf_numbered.specs.EntryPatternsMatching.{outside_given, placed_type, found_placed}
use Rattle.lf_numbered.specs.EntryTerms.{IsTried, own_values}
use Rattle.lf_numbered.specs.EntryTermsLaws.{NumberedInstanceMatchesAny}
use Rattle.lf_numbered.specs.NumberedCase.{NumberedCase}
use Rattle.lf_numbered.specs.TypedNumbered.{IsTypedNumberedCase}
use Rattle.lf_numbered.proofs.EntryPatternsEntry.{τ, τ_near, τ_far, arguments, entry_value_found}
use Rattle.lf_numbered.proofs.EntryPatternsNear.{out_far, own_near}
use Rattle.lf_numbered.proofs.EntryTermsPlaced.{σ_uses}
use Rattle.lf_numbered.proofs.EntryTermsTried.{OuterFacts, given_is_tried, tried_facts}
use Rattle.lf_numbered.proofs.EntryTermsUses.{goal_uses}

module _ (Σ : Signature) (ok : IsSignature Σ) (W : List Block) (typed : AreTypedBlocks Σ W) (first : ℕ) (free : IsFreeFrom Σ first) (C : NumberedCase) (tc : IsTypedNumberedCase Σ first W C) (p : Pattern) (tp : IsTypedPattern Σ p) (h : IsInstanceOfPattern Σ first C p) where
  abbrev φ : ℕ → Image
  φ = outside_given first C p.origin p.at_first h.values h.stands

  pub tried : IsTried first C p.origin p.at_first (outside_given first C p.origin p.at_first h.values h.stands)
  tried = given_is_tried first C p.origin p.at_first h.values h.stands

  f : OuterFacts Σ ok W typed first free C tc p.clause φ
  f = tried_facts Σ ok W typed first free C tc p.origin p.at_first φ tried

  abbrev m : List Bool
  m = covered_places C.arguments

  abbrev V : ℕ → Bool
  V = ground_in p (covered_places C.arguments) C.given

  found : (i : ℕ) (A : LfType) (N : Term) → TypeAt (scope p.clause) i A → outside p.clause.type everything i ≡ false → found_placed C p φ i ≡ Some N → own_values C p φ i ≡ put (skeleton A) N
  found i A N k o q = ap (λ c. cond c (keep (i - quantifiers p.clause.type)) (as_image i (type_at (scope p.clause) i) (found_placed C p φ i))) o ∙ found_is i (scope p.clause) A (found_placed C p φ i) N k q

  -- what is ground and used is found
  used_found : (i : ℕ) (A : LfType) → TypeAt (scope p.clause) i A → outside p.clause.type everything i ≡ false → h.used i ≡ true → V i ≡ true → h.values i ≡ own_values C p φ i
  used_found i A k o u z = let (N, q, r) = entry_value_found Σ ok W typed first free C tc p tp h i A k o u z in q ∙ sym (found i A N k o r)

  pub terms : AreTerms p.clause (ground_in p (covered_places C.arguments) C.given) (own_values C p (outside_given first C p.origin p.at_first h.values h.stands))
  terms i o v =
      let (A, k) = own_type p.clause i o in
      decided (is_given C.given i)
      (λ u.
      let (M, q) = given_there C.given i u in
      subst IsTerm (sym (found i A M k o (ap (λ x. or_else x (found_goal nothing nothing zero i (placed_type p φ) C.arguments)) q))) tt)
      (λ n.
      let u = goal_used h.used m nothing (outside p.clause.type p.clause.fixed) i p.type h.uses (ground_is_strict p m C.given i n o v) in
      subst IsTerm (used_found i A k o u v) (h.terms i o u))

  -- what stands outside, and what is used and ground
  abbrev X : ℕ → Bool
  X i = both (both (h.used i) (ground_in p (covered_places C.arguments) C.given i)) (in_context (scope p.clause) i)

  abbrev Y : ℕ → Bool
  Y i = either (outside p.clause.type everything i) (X i)

  two : Third h.used V (λ i. both (h.used i) (ground_in p (covered_places C.arguments) C.given i))
  two i u v = both_of (h.used i) (V i) u v

  three : Third (λ i. both (h.used i) (ground_in p (covered_places C.arguments) C.given i)) (in_context (scope p.clause)) Y
  three i u v = either_in (outside p.clause.type everything i) (both_of (both (h.used i) (V i)) (in_context (scope p.clause) i) u v)

  uses : UsesGoal Y (covered_places C.arguments) p.type
  uses = goal_third (λ j. both (h.used j) (V j)) (in_context (scope p.clause)) Y three m p.type (goal_third h.used V (λ j. both (h.used j) (V j)) two m p.type h.uses h.strict) (goal_part (in_context (scope p.clause)) m p.type (typed_uses_type Σ (scope p.clause) (in_context (scope p.clause)) p.type (in_covers (scope p.clause)) tp.type_typed))

  same_on : SameOn Y (τ Σ ok W typed first free C tc p tp h) (own_values C p φ)
  same_on i y = decided (outside p.clause.type everything i)
      (λ o.
      let (l, e, z) = outside_from p.clause.type everything i o in
      ap (τ Σ ok W typed first free C tc p tp h) (e ∙ out_far p.clause.type l)
      ∙ τ_far Σ ok W typed first free C tc p tp h l
      ∙ sym (ap (own_values C p φ) e ∙ ap (λ c. cond c (keep (out_index p.clause.type l - quantifiers p.clause.type)) (as_image (out_index p.clause.type l) (type_at (scope p.clause) (out_index p.clause.type l)) (found_placed C p φ (out_index p.clause.type l)))) (outside_at p.clause.type everything l) ∙ ap keep (out_back p.clause.type l)))
      (λ o.
      let x : X i ≡ true = second_of (outside p.clause.type everything i) (X i) y o in
      let (A, k) = in_type (scope p.clause) i (both_r (both (h.used i) (V i)) (in_context (scope p.clause) i) x) in
      let w = both_l (both (h.used i) (V i)) (in_context (scope p.clause) i) x in
      τ_near Σ ok W typed first free C tc p tp h i (own_near p.clause.type i o)
      ∙ ap (λ b. pick b (h.values i) (keep (i + length C.variables))) (both_l (h.used i) (V i) w)
      ∙ used_found i A k o (both_l (h.used i) (V i) w) (both_r (h.used i) (V i) w))

  pub same : ArePlaces C.arguments (target_arguments (substitute_type reduce (own_values C p (outside_given first C p.origin p.at_first h.values h.stands)) (placed_type p (outside_given first C p.origin p.at_first h.values h.stands))))
  same = goal_agrees Y (τ Σ ok W typed first free C tc p tp h) (own_values C p φ) same_on C.arguments (placed_type p φ) (goal_uses Y Y (lift_over (binders [] p.clause.type) φ) m p.type (σ_uses Σ ok W typed first free C tc p tp φ f.outer_typed f.fixed Y (λ i o. either_left (X i) o)) uses) (arguments Σ ok W typed first free C tc p tp h)

pub numbered_instance_matches_any : NumberedInstanceMatchesAny
numbered_instance_matches_any Σ ok W typed first free C tc p tp h = (outside_given first C p.origin p.at_first h.values h.stands, tried Σ ok W typed first free C tc p tp h, (h.strict, terms Σ ok W typed first free C tc p tp h, same Σ ok W typed first free C tc p tp h))
