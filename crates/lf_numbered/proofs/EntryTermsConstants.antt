-- Of a constant's clause nothing is put in: a case by number matches a pattern of it just where its case over the signature with entries does.
use Rattle.std.proofs.Common.{◌≡◌, ℕ, zero, suc, ◌-◌, List, [], ◌∷◌, refl, sym, ap, ◌∙◌, subst}
use Rattle.std.specs.Prelude.{Bool, cond}
use Rattle.lf.specs.Syntax.{LfType}
use Rattle.lf.specs.Substitution.{Image, keep, lift, substitute_type, reduce}
use Rattle.lf.specs.Entries.{quantifiers}
use Rattle.lf.specs.Typing.{Signature, TypeAt}
use Rattle.lf.specs.Variables.{target_arguments, binders, SameOn, nothing}
use Rattle.lf.specs.Worlds.{lift_over}
use Rattle.lf.proofs.Kept.{typed_uses_type}
use Rattle.lf.proofs.TypeLaws.{substitute_identity_type}
use Rattle.lf_checks.specs.Clause.{Clause, scope, outside}
use Rattle.lf_checks.specs.Ground.{UsesGoal}
use Rattle.lf_checks.specs.Parts.{type_at}
use Rattle.lf_checks.specs.Worlded.{IsTerm}
use Rattle.lf_cases.specs.Case.{covered_places}
use Rattle.lf_cases.specs.Pattern.{Origin, of_constant, of_entry, Pattern, given_at}
use Rattle.lf_totality.proofs.OutputCases.{in_context, in_covers, in_type}
use Rattle.lf_coverage.specs.OrElse.{or_else}
use Rattle.lf_coverage.specs.Leaf.{IsTypedPattern}
use Rattle.lf_coverage.specs.Matching.{ArePlaces, MatchesByTerms, as_image, found_goal, found_term, found_values}
use Rattle.lf_coverage.specs.MeetStore.{IsConstants}
use Rattle.lf_coverage.proofs.Choices.{decided}
use Rattle.lf_coverage.proofs.Matched.{goal_part, own_type}
use Rattle.lf_coverage.proofs.Matching.{goal_agrees, is_own, none_fixed}
use Rattle.lf_numbered.specs.EntryPatternsMatching.{placed_type, found_placed}
use Rattle.lf_numbered.specs.EntryTerms.{IsTried, MatchesWith, own_values}
use Rattle.lf_numbered.specs.EntryTermsLaws.{ConstantMatchesByNumber}
use Rattle.lf_numbered.specs.NumberedCase.{NumberedCase}
use Rattle.lf_numbered.specs.OwnStores.{as_case}
use mathlib.Core.Path.{fun_ext}

pub lift_keep : (D : List LfType) → lift_over D keep ≡ keep
lift_keep [] = refl
lift_keep (A ∷ D) = ap lift (lift_keep D) ∙ fun_ext once
  where
    once : (i : ℕ) → lift keep i ≡ keep i
    once zero = refl
    once (suc i) = refl

-- nothing stands outside, so variables alone are tried
tried_is : (first : ℕ) (C : NumberedCase) {c : Clause} (o : Origin c) (b : Bool) (φ : ℕ → Image) → IsConstants o → IsTried first C o b φ → φ ≡ keep
tried_is first C (of_constant U) b φ k t = t
tried_is first C (of_entry B later E es e) b φ k t = absurd k

keep_is_tried : (first : ℕ) (C : NumberedCase) {c : Clause} (o : Origin c) (b : Bool) → IsConstants o → IsTried first C o b keep
keep_is_tried first C (of_constant U) b k = refl
keep_is_tried first C (of_entry B later E es e) b k = absurd k

module _ (Σ : Signature) (C : NumberedCase) (p : Pattern) (tp : IsTypedPattern Σ p) (k : IsConstants p.origin) where
  placed_keep : placed_type p keep ≡ p.type
  placed_keep = ap (λ s. substitute_type reduce s p.type) (lift_keep (binders [] p.clause.type)) ∙ substitute_identity_type reduce p.type

  no_fixed : nothing ≡ outside p.clause.type p.clause.fixed
  no_fixed = fun_ext (λ i. decided (outside p.clause.type p.clause.fixed i) (λ e. absurd (none_fixed p.origin k i e)) (λ e. sym e))

  same_found : (x : ℕ) → found_placed C p keep x ≡ found_term (as_case C) p x
  same_found x = ap (λ A. or_else (given_at C.given x) (found_goal nothing nothing zero x A C.arguments)) placed_keep ∙ ap (λ F. or_else (given_at C.given x) (found_goal nothing F zero x p.type C.arguments)) no_fixed

  same_value : (i : ℕ) (A : LfType) → TypeAt (scope p.clause) i A → own_values C p keep i ≡ found_values (as_case C) p i
  same_value i A g = ap (λ b. cond b (keep (i - quantifiers p.clause.type)) (as_image i (type_at (scope p.clause) i) (found_placed C p keep i))) (is_own p.origin k i A g) ∙ ap (as_image i (type_at (scope p.clause) i)) (same_found i)

  same_on : SameOn (in_context (scope p.clause)) (own_values C p keep) (found_values (as_case C) p)
  same_on i y = let (A, g) = in_type (scope p.clause) i y in same_value i A g

  uses : UsesGoal (in_context (scope p.clause)) (covered_places C.arguments) p.type
  uses = goal_part (in_context (scope p.clause)) (covered_places C.arguments) p.type (typed_uses_type Σ (scope p.clause) (in_context (scope p.clause)) p.type (in_covers (scope p.clause)) tp.type_typed)

  pub into : MatchesWith C p keep → MatchesByTerms (as_case C) p
  into (g, ft, same) = (
    g,
    (λ i o u. let (A, h) = own_type p.clause i o in subst IsTerm (same_value i A h) (ft i o u)),
    goal_agrees (in_context (scope p.clause)) (own_values C p keep) (found_values (as_case C) p) same_on C.arguments p.type uses (subst (λ A. ArePlaces C.arguments (target_arguments (substitute_type reduce (own_values C p keep) A))) placed_keep same),
  )

  pub out_of : MatchesByTerms (as_case C) p → MatchesWith C p keep
  out_of (g, ft, same) = (
    g,
    (λ i o u. let (A, h) = own_type p.clause i o in subst IsTerm (sym (same_value i A h)) (ft i o u)),
    subst (λ A. ArePlaces C.arguments (target_arguments (substitute_type reduce (own_values C p keep) A))) (sym placed_keep) (goal_agrees (in_context (scope p.clause)) (found_values (as_case C) p) (own_values C p keep) (λ i y. sym (same_on i y)) C.arguments p.type uses same),
  )

pub constant_matches_by_number : ConstantMatchesByNumber
constant_matches_by_number Σ first C p tp k = (
  (λ (φ, t, m). into Σ C p tp k (subst (MatchesWith C p) (tried_is first C p.origin p.at_first φ k t) m)),
  (λ m. (keep, keep_is_tried first C p.origin p.at_first k, out_of Σ C p tp k m)),
)
