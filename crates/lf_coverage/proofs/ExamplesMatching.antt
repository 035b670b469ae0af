-- Worked cases of matching.
use Rattle.std.proofs.Common.{◌≡◌, ℕ, zero, suc, [], ◌∷◌, refl, sym, subst, true≢false}
use Rattle.std.specs.Prelude.{List, Bool, true, false}
use Rattle.lf.specs.Syntax.{Term, LfType, base, arrow}
use Rattle.lf.specs.Substitution.{put, substitute_type, reduce}
use Rattle.lf.specs.Typing.{TypeAt, HasType, ImageHasType}
use Rattle.lf.specs.Variables.{UsesType, Values}
use Rattle.lf_checks.specs.Clause.{scope, from_constant}
use Rattle.lf_checks.specs.Ground.{UsesGoal}
use Rattle.lf_cases.specs.Cover.{AreTerms}
use Rattle.lf_cases.specs.Pattern.{ground_in, of_constant}
use Rattle.lf_cases.specs.Reached.{IsInstanceOf}
use Rattle.lf_totality.specs.Examples.{Addition, nat, z, var, plus_s, plus_successor_case, plus_kind, plus_z, plus_input_goal}
use Rattle.lf_totality.proofs.Addition.{addition_ok}
use Rattle.lf_totality.specs.ExamplesReached.{applied_clause, head_of}
use Rattle.lf_coverage.specs.ExamplesMatching.{ValuesAreFound, PlusMatches, PlusIsInstance, TwoAreNotOne, plus_z_head}
use Rattle.lf_coverage.specs.ExamplesTyped.{plus_s_head}
use Rattle.lf_coverage.specs.Heads.{IsTypedCase}
use Rattle.lf_coverage.specs.Matching.{found_values, MatchesByTerms}
use Rattle.lf_coverage.specs.TypedCase.{IsTypedBeside}
use Rattle.lf_coverage.proofs.ExamplesLeaf.{at_two, at_three}
use Rattle.lf_coverage.proofs.HeadMatching.{head_matching_decides}
use Rattle.lf_coverage.proofs.Leaves.{head_is_typed}
use Rattle.lf_coverage.proofs.MatchInstance.{match_is_instance}
use Rattle.lf_coverage.proofs.TypedCases.{input_goal_is_typed}

pub values_are_found : ValuesAreFound
values_are_found = (refl, refl, refl, refl, refl, refl, refl, refl)

-- X and Y are ground
abbrev ground : ℕ → Bool
ground = ground_in plus_s_head (true ∷ true ∷ false ∷ []) []

abbrev two : List LfType
two = nat ∷ nat ∷ []

found_terms : AreTerms plus_s (ground_in plus_s_head (true ∷ true ∷ false ∷ []) []) (found_values plus_successor_case plus_s_head)
found_terms zero o u = absurd cc
found_terms (suc zero) o u = absurd cc
found_terms (suc (suc zero)) o u = tt
found_terms (suc (suc (suc zero))) o u = tt
found_terms (suc (suc (suc (suc i)))) o u = absurd cc

found_typed : Values Addition (ground_in plus_s_head (true ∷ true ∷ false ∷ []) []) (scope plus_s) (nat ∷ nat ∷ []) (found_values plus_successor_case plus_s_head)
found_typed = record { typed = typed; closed = closed }
  where
    number : (M : Term) → HasType Addition two M nat → (A : LfType) → nat ≡ A → ImageHasType Addition two (put (base 0) M) (substitute_type reduce (found_values plus_successor_case plus_s_head) A)
    number M m A e = subst (λ X. ImageHasType Addition two (put (base 0) M) (substitute_type reduce (found_values plus_successor_case plus_s_head) X)) e (refl, m)

    typed : (i : ℕ) (A : LfType) → TypeAt (scope plus_s) i A → ground i ≡ true → ImageHasType Addition two (found_values plus_successor_case plus_s_head i) (substitute_type reduce (found_values plus_successor_case plus_s_head) A)
    typed zero A g u = absurd cc
    typed (suc zero) A g u = absurd cc
    typed (suc (suc zero)) A g u = number (var 0) (nat, refl, refl) A (at_two A g)
    typed (suc (suc (suc zero))) A g u = number (var 1) (nat, (nat, refl, refl), refl) A (at_three A g)
    typed (suc (suc (suc (suc i)))) A (C, (D, (E, (F, g, e), e1), e2), e3) u = absurd g

    closed : (i : ℕ) (A : LfType) → TypeAt (scope plus_s) i A → ground i ≡ true → UsesType ground A
    closed zero A g u = absurd cc
    closed (suc zero) A g u = absurd cc
    closed (suc (suc zero)) A g u = subst (UsesType ground) (at_two A g) tt
    closed (suc (suc (suc zero))) A g u = subst (UsesType ground) (at_three A g) tt
    closed (suc (suc (suc (suc i)))) A (C, (D, (E, (F, g, e), e1), e2), e3) u = absurd g

pub plus_matches : PlusMatches
plus_matches = (
  record { strict = (((refl, tt), tt), ((refl, tt), tt)); found = found_terms; typed = found_typed; same = (refl, (refl, tt)) },
  λ m. let q : var 1 ≡ z = m.same.0 in absurd cc,
  λ m. by m.strict,
)
  where
    by : UsesGoal (ground_in (head_of applied_clause.type) (true ∷ []) []) (true ∷ []) (head_of applied_clause.type).type → ⊥
    by h = true≢false (sym h.0.0)

successor_typed : IsTypedCase Addition [] plus_successor_case
successor_typed = record { items = ((tt, (_, refl, tt)), (_, refl, tt)); given = tt; arguments = ((base 0, (arrow (base 0) (base 0), refl, ((base 0, refl, refl), refl))), ((base 0, (base 0, refl, refl)), tt)) }

goal_typed : IsTypedBeside Addition [] plus_input_goal plus_z_head
goal_typed = input_goal_is_typed Addition addition_ok [] (λ B m. absurd m) 1 (true ∷ true ∷ false ∷ []) plus_kind refl (tt, (tt, tt)) plus_z (of_constant plus_z.type) (head_is_typed Addition addition_ok [] (λ B m. absurd m) plus_z (from_constant 2 plus_z.type refl)) refl

pub plus_is_instance : PlusIsInstance
plus_is_instance = (
  match_is_instance Addition addition_ok [] (λ B m. absurd m) plus_successor_case successor_typed plus_s_head tt (λ i e. absurd cc) plus_matches.0,
  λ h. let q : var 1 ≡ z = (of_plus_z h).2.0 in absurd cc,
  λ h. true≢false (sym h.3.0.0),
)
  where
    of_plus_z : IsInstanceOf Addition [] plus_input_goal plus_z_head → MatchesByTerms plus_input_goal plus_z_head
    of_plus_z = (head_matching_decides Addition addition_ok [] (λ B m. absurd m) plus_input_goal plus_z (from_constant 2 plus_z.type refl) tt goal_typed refl plus_kind refl (tt, (tt, tt))).0.0

pub two_are_not_one : TwoAreNotOne
two_are_not_one = (refl, λ (g, t, (e, (f, r))). let q : var 0 ≡ var 1 = f in absurd cc)
