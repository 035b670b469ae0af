-- Cases of addition that are typed beside plus-s and its subgoal.
use Rattle.std.proofs.Common.{◌≡◌, ℕ, zero, suc, [], ◌∷◌, refl, sym, subst}
use Rattle.std.specs.Prelude.{true}
use Rattle.lf.specs.Syntax.{Term, LfType, Kind, base}
use Rattle.lf.specs.Substitution.{substitute_type, reduce, put}
use Rattle.lf.specs.Typing.{TypeAt, HasType, ImageHasType}
use Rattle.lf.specs.Variables.{UsesType, Values}
use Rattle.lf_unification.specs.Solving.{Never}
use Rattle.lf_checks.specs.Clause.{scope, from_constant}
use Rattle.lf_cases.specs.Case.{items_context}
use Rattle.lf_cases.specs.Pattern.{of_constant, is_given}
use Rattle.lf_totality.specs.Examples.{Addition, nat, z, successor, plus_s, plus_kind, plus_input_goal, plus_zero_case, plus_output_case}
use Rattle.lf_totality.proofs.Addition.{addition_ok}
use Rattle.lf_coverage.specs.ExamplesLeaves.{plus_asked}
use Rattle.lf_coverage.specs.ExamplesTyped.{plus_s_head, PlusGoalsAreTyped, odd_case, OddCaseIsUntyped, ZeroIsApart}
use Rattle.lf_coverage.specs.Heads.{IsTypedCase}
use Rattle.lf_coverage.specs.Leaf.{IsTypedPattern}
use Rattle.lf_coverage.specs.MeetStore.{meet_store}
use Rattle.lf_coverage.specs.TypedCase.{IsTypedBeside, given_values}
use Rattle.lf_coverage.proofs.ExamplesLeaf.{output_leaf, at_two, at_three}
use Rattle.lf_coverage.proofs.Leaves.{head_is_typed, subgoal_is_typed}
use Rattle.lf_coverage.proofs.Meeting.{never_is_apart}
use Rattle.lf_coverage.proofs.Parts.{some_same}
use Rattle.lf_coverage.proofs.TypedCases.{input_goal_is_typed, meet_store_is_ready}

head_typed : IsTypedPattern Addition plus_s_head
head_typed = head_is_typed Addition addition_ok [] (λ B m. absurd m) plus_s (from_constant 3 plus_s.type refl)

asked_typed : IsTypedPattern Addition plus_asked
asked_typed = subgoal_is_typed Addition addition_ok [] (λ B m. absurd m) plus_s (from_constant 3 plus_s.type refl) 0 plus_asked.type (refl, refl)

input_typed : IsTypedBeside Addition [] plus_input_goal plus_s_head
input_typed = input_goal_is_typed Addition addition_ok [] (λ B m. absurd m) 1 (true ∷ true ∷ Rattle.std.specs.Prelude.false ∷ []) plus_kind refl (tt, (tt, tt)) plus_s (of_constant plus_s.type) head_typed refl

-- the given X and Y
given_typed : Values Addition (is_given plus_output_case.given) (scope plus_s) (nat ∷ nat ∷ nat ∷ []) (given_values plus_output_case plus_asked)
given_typed = record { typed = typed; closed = closed }
  where
    number : (M : Term) → HasType Addition (nat ∷ nat ∷ nat ∷ []) M nat → (A : LfType) → nat ≡ A → ImageHasType Addition (nat ∷ nat ∷ nat ∷ []) (put (base 0) M) (substitute_type reduce (given_values plus_output_case plus_asked) A)
    number M m A e = subst (λ X. ImageHasType Addition (nat ∷ nat ∷ nat ∷ []) (put (base 0) M) (substitute_type reduce (given_values plus_output_case plus_asked) X)) e (refl, m)

    typed : (i : ℕ) (A : LfType) → TypeAt (scope plus_s) i A → is_given plus_output_case.given i ≡ true → ImageHasType Addition (nat ∷ nat ∷ nat ∷ []) (given_values plus_output_case plus_asked i) (substitute_type reduce (given_values plus_output_case plus_asked) A)
    typed zero A g u = absurd cc
    typed (suc zero) A g u = absurd cc
    typed (suc (suc zero)) A g u = number (Rattle.lf_totality.specs.Examples.var 1) (nat, (nat, refl, refl), refl) A (at_two A g)
    typed (suc (suc (suc zero))) A g u = number (Rattle.lf_totality.specs.Examples.var 2) (nat, (nat, (nat, refl, refl), refl), refl) A (at_three A g)
    typed (suc (suc (suc (suc i)))) A (C, (D, (E, (F, g, e), e1), e2), e3) u = absurd g

    closed : (i : ℕ) (A : LfType) → TypeAt (scope plus_s) i A → is_given plus_output_case.given i ≡ true → UsesType (is_given plus_output_case.given) A
    closed zero A g u = absurd cc
    closed (suc zero) A g u = absurd cc
    closed (suc (suc zero)) A g u = subst (UsesType (is_given plus_output_case.given)) (at_two A g) tt
    closed (suc (suc (suc zero))) A g u = subst (UsesType (is_given plus_output_case.given)) (at_three A g) tt
    closed (suc (suc (suc (suc i)))) A (C, (D, (E, (F, g, e), e1), e2), e3) u = absurd g

output_typed : IsTypedBeside Addition [] plus_output_case plus_asked
output_typed = record {
  by_skeletons = output_leaf.typed;
  local_typed = (((tt, (_, refl, tt)), (_, refl, tt)), (_, refl, tt));
  same_family = refl;
  kind = plus_kind;
  of_family = refl;
  given = given_typed;
  local = refl;
  arguments = ((nat, refl, refl), tt);
}

pub plus_goals_are_typed : PlusGoalsAreTyped
plus_goals_are_typed = (
  input_typed,
  output_typed,
  meet_store_is_ready Addition addition_ok [] (λ B m. absurd m) plus_input_goal plus_s_head head_typed input_typed plus_kind refl,
  meet_store_is_ready Addition addition_ok [] (λ B m. absurd m) plus_output_case plus_asked asked_typed output_typed plus_kind refl,
)

pub odd_case_is_untyped : OddCaseIsUntyped
odd_case_is_untyped = (record { items = ((tt, (_, refl, tt)), (plus_kind, refl, ((nat, refl, refl), ((nat, refl, refl), ((nat, refl, refl), tt))))); given = tt; arguments = ((base 1, (base 1, refl, refl)), ((base 0, (base 0, refl, refl)), tt)) }, no)
  where
    other : (A : LfType) → A ≡ Rattle.lf_totality.specs.Examples.on_three 1 z (Rattle.lf_totality.specs.Examples.var 1) (Rattle.lf_totality.specs.Examples.var 1) → A ≡ nat → ⊥
    other A e q = cc

    no : IsTypedBeside Addition [] odd_case plus_s_head → ⊥
    no t = by t.kind (some_same t.of_family) t.arguments
      where
        by : (K : Kind) → plus_kind ≡ K → Rattle.lf_coverage.specs.TypedCase.TypedArguments Addition (Rattle.lf.specs.Variables.onto (items_context odd_case.items) (scope plus_s)) odd_case.arguments (Rattle.lf_cases.specs.Candidates.with_given odd_case plus_s [] (Rattle.lf.specs.Variables.target_arguments plus_s.type)) K → ⊥
        by K e a = first (subst (Rattle.lf_coverage.specs.TypedCase.TypedArguments Addition (Rattle.lf.specs.Variables.onto (items_context odd_case.items) (scope plus_s)) odd_case.arguments (Rattle.lf_cases.specs.Candidates.with_given odd_case plus_s [] (Rattle.lf.specs.Variables.target_arguments plus_s.type))) (sym e) a)
          where
            first : Rattle.lf_coverage.specs.TypedCase.TypedArguments Addition (Rattle.lf.specs.Variables.onto (items_context odd_case.items) (scope plus_s)) odd_case.arguments (Rattle.lf_cases.specs.Candidates.with_given odd_case plus_s [] (Rattle.lf.specs.Variables.target_arguments plus_s.type)) plus_kind → ⊥
            first ((A, g, e), rest) = other A g e

zero_typed : IsTypedCase Addition [] plus_zero_case
zero_typed = record { items = (tt, (_, refl, tt)); given = tt; arguments = ((base 0, (base 0, refl, refl)), ((base 0, (base 0, refl, refl)), tt)) }

-- z = s X'
never_zero : Never Addition [] (meet_store plus_zero_case plus_s_head plus_kind)
never_zero F β (i, (r, (e, rest))) = differ _ e
  where
    differ : (P : Term) → z ≡ successor P → ⊥
    differ P q = cc

pub zero_is_apart : ZeroIsApart
zero_is_apart = (never_zero, never_is_apart Addition addition_ok [] (λ B m. absurd m) plus_zero_case zero_typed tt plus_s_head head_typed tt refl refl plus_kind never_zero)
