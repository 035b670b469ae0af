-- A case by number is an instance of a pattern just where the values that matching finds make it one.
use Rattle.std.proofs.Common.{◌≡◌, ℕ, ◌-◌, List, refl, sym, ap, ◌∙◌, subst}
use Rattle.std.specs.Prelude.{Bool, true, false, cond}
use Rattle.lf.specs.Syntax.{LfType}
use Rattle.lf.specs.Substitution.{Image, substitute_type, reduce}
use Rattle.lf.specs.Entries.{quantifiers}
use Rattle.lf.specs.Typing.{Signature, TypeAt, ImageHasType, IsSignature}
use Rattle.lf.specs.Variables.{UsesType, SameOn, everything}
use Rattle.lf.specs.Subordination.{Block, AreTypedBlocks}
use Rattle.lf.proofs.Agreement.{agree_on_type}
use Rattle.lf.proofs.Checker.{both_of}
use Rattle.lf.proofs.Kept.{typed_uses_type}
use Rattle.lf.proofs.Weakening.{declared_is_type}
use Rattle.lf_checks.specs.Clause.{Clause, scope, outside}
use Rattle.lf_checks.specs.Ground.{UsesGoal}
use Rattle.lf_checks.specs.Parts.{type_at}
use Rattle.lf_checks.specs.Tests.{both}
use Rattle.lf_checks.specs.Worlded.{IsTerm}
use Rattle.lf_checks.proofs.EtaTest.{both_l, both_r}
use Rattle.lf_cases.specs.Case.{covered_places}
use Rattle.lf_cases.specs.Cover.{outer_images}
use Rattle.lf_cases.specs.Pattern.{Origin, of_constant, of_entry, Pattern, ground_in}
use Rattle.lf_totality.proofs.Core.{out_index, outside_at, outer_at}
use Rattle.lf_totality.proofs.OutputCases.{in_context, in_covers, in_type}
use Rattle.lf_totality.proofs.Theorem.{outside_from}
use Rattle.lf_coverage.specs.Leaf.{IsTypedPattern}
use Rattle.lf_coverage.specs.Matching.{HoldsTypes, as_image}
use Rattle.lf_coverage.proofs.ClauseValues.{out_back, out_type}
use Rattle.lf_coverage.proofs.Matched.{Third, goal_third, goal_part, type_third}
use Rattle.lf_coverage.proofs.Matching.{found_is, goal_agrees}
use Rattle.lf_numbered.specs.EntryConstants.{with_entries, IsFreeFrom}
use Rattle.lf_numbered.specs.EntryPatterns.{StandsByNumber, IsInstanceOfPattern}
use Rattle.lf_numbered.specs.EntryPatternsMatching.{outside_given, found_placed, placed_values, FoundValuesMakeInstance}
use Rattle.lf_numbered.specs.NumberedCase.{NumberedCase}
use Rattle.lf_numbered.specs.OwnTerms.{blocks_of, own_terms, ImageOnOwnTerms}
use Rattle.lf_numbered.specs.TypedNumbered.{IsTypedNumberedCase}
use Rattle.lf_numbered.proofs.EntryPatternsEntry.{entry_value_found, Given, given_by}

module _ (Σ : Signature) (ok : IsSignature Σ) (W : List Block) (typed : AreTypedBlocks Σ W) (first : ℕ) (free : IsFreeFrom Σ first) (C : NumberedCase) (tc : IsTypedNumberedCase Σ first W C) (p : Pattern) (tp : IsTypedPattern Σ p) (h : IsInstanceOfPattern Σ first C p) (holds : HoldsTypes (ground_in p (covered_places C.arguments) C.given) (scope p.clause)) where
  abbrev O : List LfType
  O = scope p.clause

  abbrev V : ℕ → Bool
  V = ground_in p (covered_places C.arguments) C.given

  abbrev φ : ℕ → Image
  φ = outside_given first C p.origin p.at_first h.values h.stands

  abbrev τ : ℕ → Image
  τ = placed_values C p φ

  abbrev Σ₁ : Signature
  Σ₁ = with_entries Σ first (blocks_of C.blocks)

  g : Given Σ ok W typed first free C tc p.clause h.values φ
  g = given_by Σ ok W typed first free C tc p.clause p.origin p.at_first h.values h.stands

  outer_is : (k : ℕ) → τ (out_index p.clause.type k) ≡ φ k
  outer_is k = ap (λ b. cond b (φ (out_index p.clause.type k - quantifiers p.clause.type)) (as_image (out_index p.clause.type k) (type_at O (out_index p.clause.type k)) (found_placed C p φ (out_index p.clause.type k)))) (outside_at p.clause.type everything k) ∙ ap φ (out_back p.clause.type k)

  own_is : (i : ℕ) → outside p.clause.type everything i ≡ false → τ i ≡ as_image i (type_at O i) (found_placed C p φ i)
  own_is i o = ap (λ b. cond b (φ (i - quantifiers p.clause.type)) (as_image i (type_at O i) (found_placed C p φ i))) o

  -- the found value is the value
  same_value : (i : ℕ) (A : LfType) → TypeAt O i A → h.used i ≡ true → V i ≡ true → h.values i ≡ τ i
  same_value i A k u z = by (outside p.clause.type everything i) refl
    where
      by : (b : Bool) → outside p.clause.type everything i ≡ b → h.values i ≡ τ i
      by true o =
          let (l, e, y) = outside_from p.clause.type everything i o in
          let (Z, t, s, f) = out_type p.clause.type p.clause.outer l A (subst (λ j. TypeAt O j A) e k) in
          ap h.values e ∙ g.agrees l Z t ∙ sym (ap τ e ∙ outer_is l)
      by false o =
          let (N, q, f) = entry_value_found Σ ok W typed first free C tc p tp h i A k o u z in
          q ∙ sym (own_is i o ∙ found_is i O A (found_placed C p φ i) N k f)

  -- the variables of the scope that are used and ground
  abbrev Y : ℕ → Bool
  Y i = both (both (h.used i) (ground_in p (covered_places C.arguments) C.given i)) (in_context (scope p.clause) i)

  used_of : (i : ℕ) → Y i ≡ true → h.used i ≡ true
  used_of i y = both_l (h.used i) (V i) (both_l (both (h.used i) (V i)) (in_context O i) y)

  ground_of : (i : ℕ) → Y i ≡ true → V i ≡ true
  ground_of i y = both_r (h.used i) (V i) (both_l (both (h.used i) (V i)) (in_context O i) y)

  same_on : SameOn Y h.values τ
  same_on i y = let (A, k) = in_type O i (both_r (both (h.used i) (V i)) (in_context O i) y) in same_value i A k (used_of i y) (ground_of i y)

  two : Third h.used V (λ i. both (h.used i) (ground_in p (covered_places C.arguments) C.given i))
  two i u v = both_of (h.used i) (V i) u v

  three : Third (λ i. both (h.used i) (ground_in p (covered_places C.arguments) C.given i)) (in_context O) Y
  three i u v = both_of (both (h.used i) (V i)) (in_context O i) u v

  closed : (i : ℕ) (A : LfType) → TypeAt O i A → Y i ≡ true → UsesType Y A
  closed i A k y = type_third (λ j. both (h.used j) (V j)) (in_context O) Y three A (type_third h.used V (λ j. both (h.used j) (V j)) two A (h.typed.closed i A k (used_of i y)) (holds i A k (ground_of i y))) (typed_uses_type Σ O (in_context O) A (in_covers O) (declared_is_type Σ ok O i A tp.clause_typed k))

  pub found_instance : IsInstanceOfPattern Σ first C p
  found_instance = record {
    used = Y;
    values = τ;
    typed = record {
      typed = λ i A k y. subst (ImageHasType Σ₁ C.variables (τ i)) (agree_on_type reduce Y h.values τ A same_on (closed i A k y)) (subst (λ x. ImageHasType Σ₁ C.variables x (substitute_type reduce h.values A)) (same_on i y) (h.typed.typed i A k (used_of i y)));
      closed = closed;
    };
    on_own_terms = λ i y. subst (ImageOnOwnTerms (own_terms first C.blocks)) (same_on i y) (h.on_own_terms i (used_of i y));
    uses = uses;
    strict = h.strict;
    terms = λ i o y. subst IsTerm (same_on i y) (h.terms i o (used_of i y));
    given = λ i M y q. let (a, e) = h.given i M (used_of i y) q in (a, sym (same_on i y) ∙ e);
    stands = stands p.origin p.at_first h.values τ h.stands (λ k. outer_at p.clause.type τ k ∙ outer_is k);
    same = goal_agrees Y h.values τ same_on C.arguments p.type uses h.same;
  }
    where
      uses : UsesGoal Y (covered_places C.arguments) p.type
      uses = goal_third (λ j. both (h.used j) (V j)) (in_context O) Y three (covered_places C.arguments) p.type (goal_third h.used V (λ j. both (h.used j) (V j)) two (covered_places C.arguments) p.type h.uses h.strict) (goal_part (in_context O) (covered_places C.arguments) p.type (typed_uses_type Σ O (in_context O) p.type (in_covers O) tp.type_typed))

      stands : {c : Clause} (o : Origin c) (b : Bool) (σ ρ : ℕ → Image) (s : StandsByNumber first C o b σ) → ((k : ℕ) → outer_images (quantifiers c.type) ρ k ≡ outside_given first C o b σ s k) → StandsByNumber first C o b ρ
      stands (of_constant U) b σ ρ s e = tt
      stands (of_entry B later E es q) b σ ρ (k, U, y, n, a) e = (k, U, y, n, λ l Z t. e l)

pub found_values_make_instance : FoundValuesMakeInstance
unfolding found_instance
found_values_make_instance Σ ok W typed first free C tc p tp h holds = (found_instance Σ ok W typed first free C tc p tp h holds, refl)
