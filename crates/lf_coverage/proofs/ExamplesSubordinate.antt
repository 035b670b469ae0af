-- Worked cases of what is quantified along a run.
use Rattle.std.proofs.Common.{◌≡◌, ℕ, zero, suc, List, [], ◌∷◌, inl, inr, refl, sym, ap, ◌∙◌, subst, true≢false}
use Rattle.std.specs.Prelude.{true, Some}
use Rattle.lf.specs.Syntax.{constant, Term, lambda, LfType, Kind, star, base, skeleton}
use Rattle.lf.specs.Substitution.{Image, keep, put, after}
use Rattle.lf.specs.AtOnce.{in_front}
use Rattle.lf.specs.Typing.{TypeAt}
use Rattle.lf.specs.Subordination.{Block, Member, Below, below_itself, below_in_constant, IsTypedBlock}
use Rattle.lf.proofs.Eta.{reduce_nil}
use Rattle.lf_checks.specs.Marks.{input_places}
use Rattle.lf_cases.specs.Case.{Item, as_term}
use Rattle.lf_cases.specs.Missing.{AreTypedItems, IsTypedInstance}
use Rattle.lf_cases.specs.Reached.{constant_head, split_by, IsSplitBy, Unifies}
use Rattle.lf_cases.specs.Split.{Ends, at_leaf, by_split, no_case, next_case}
use Rattle.lf_totality.specs.Examples.{Addition, addition_types, addition_kinds, addition_marks, plus_heads, plus_input_goal, plus_zero_case, plus_successor_case, plus_kind, plus_z, nat, var, z, first_below_second}
use Rattle.lf_totality.proofs.Addition.{addition_ok}
use Rattle.lf_totality.proofs.ExampleLemmas.{below_itself as test_itself}
use Rattle.lf_coverage.specs.ExamplesSubordinate.{ArgumentsAreNotEnough, FunctionsAreSplit, OutputsAreRaisedBelow, AdditionIsTested, PlusRunIsAnswered, OddCaseComesByNone, odd_case, of_sum, LooseCaseIsSplit, loose_case}
use Rattle.lf_coverage.specs.Leaf.{IsInstanceLeaf}
use Rattle.lf_coverage.specs.Subordinate.{QuantifiersAreBelow}
use Rattle.lf_coverage.specs.SubordinateRuns.{ComesBy, comes_itself, comes_by_split}
use Rattle.lf_coverage.specs.UnifiedSplit.{IsAnsweredSplit, AnswersEachHead}
use Rattle.lf_coverage.proofs.Examples.{goal_typed, plus_subordination, same_is}
use Rattle.lf_coverage.proofs.ExamplesLeaves.{zero_leaf, successor_leaf}
use Rattle.lf_coverage.proofs.ExamplesUnified.{plus_solved}
use Rattle.lf_coverage.proofs.SubordinateRuns.{answered_split_is_answer, input_run_quantifies_below, answered_run_covers_inputs}
use Rattle.lf_coverage.proofs.Parts.{some_same}
use Rattle.lf_coverage.proofs.TestedBelow.{KindIsBelow, below_is_tested}

pub arguments_are_not_enough : ArgumentsAreNotEnough
arguments_are_not_enough = ((((refl, refl), refl), tt), (λ h. true≢false (sym h.0.0)), (λ h. true≢false (sym h.1.1.0)))

pub functions_are_split : FunctionsAreSplit
functions_are_split = (refl, ((refl, tt, tt), ((refl, tt, tt), tt)), refl, (λ h. true≢false (sym h.1.0.0)))

pub outputs_are_raised_below : OutputsAreRaisedBelow
outputs_are_raised_below = (refl, refl, ((refl, tt, tt), ((refl, tt, tt), tt)), (λ h. true≢false (sym h.2.0)))

-- The test is that of the declarations.
types_below : (c : ℕ) (U : LfType) → addition_types c ≡ Some U → QuantifiersAreBelow first_below_second U
types_below zero U e = subst (QuantifiersAreBelow first_below_second) (some_same e) tt
types_below (suc zero) U e = subst (QuantifiersAreBelow first_below_second) (some_same e) (refl, tt, tt)
types_below (suc (suc zero)) U e = subst (QuantifiersAreBelow first_below_second) (some_same e) (refl, tt, tt)
types_below (suc (suc (suc zero))) U e = subst (QuantifiersAreBelow first_below_second) (some_same e) (refl, tt, (refl, tt, (refl, tt, (refl, tt, tt))))
types_below (suc (suc (suc (suc c)))) U e = absurd cc

kinds_below : (f : ℕ) (K : Kind) → addition_kinds f ≡ Some K → KindIsBelow first_below_second f K
kinds_below zero K e = subst (KindIsBelow first_below_second 0) (some_same e) tt
kinds_below (suc zero) K e = subst (KindIsBelow first_below_second 1) (some_same e) (refl, tt, (refl, tt, (refl, tt, tt)))
kinds_below (suc (suc f)) K e = absurd cc

tested_is_below : (f b : ℕ) → first_below_second f b ≡ true → Below Addition [] b f
tested_is_below zero b e = subst (λ c. Below Addition [] c 0) (sym (same_is 0 b e)) below_itself
tested_is_below (suc zero) zero e = below_in_constant 2 plus_z.type refl (inl (refl, refl))
tested_is_below (suc zero) (suc b) e = subst (λ c. Below Addition [] (suc c) 1) (sym (same_is 0 b e)) below_itself
tested_is_below (suc (suc n)) b e = subst (λ c. Below Addition [] c (suc (suc n))) (sym (same_is (suc (suc n)) b e)) below_itself

pub addition_is_tested : AdditionIsTested
addition_is_tested f b = (tested_is_below f b, λ p. below_is_tested first_below_second Addition test_itself plus_subordination.through types_below kinds_below p)

-- A run.
pub no_world : (B : Block) → Member B [] → IsTypedBlock Addition B
no_world B m = absurd m

pub answered : IsAnsweredSplit Addition [] first_below_second plus_input_goal 1 (plus_zero_case ∷ plus_successor_case ∷ [])
answered = plus_solved.answered

run : Ends (IsInstanceLeaf Addition [] plus_heads) (AnswersEachHead Addition [] first_below_second) plus_input_goal
run = by_split (plus_zero_case ∷ plus_successor_case ∷ []) (1, answered) (next_case (at_leaf zero_leaf) (next_case (at_leaf successor_leaf) no_case))

pub plus_run_is_answered : PlusRunIsAnswered
plus_run_is_answered = (
  run,
  answered_run_covers_inputs Addition addition_ok [] no_world first_below_second addition_is_tested plus_heads 1 (input_places (addition_marks 1)) plus_kind refl (tt, (tt, tt)) run,
  answered_split_is_answer Addition addition_ok [] no_world first_below_second addition_is_tested plus_input_goal goal_typed (tt, (tt, tt)) 1 (plus_zero_case ∷ plus_successor_case ∷ []) answered,
)

pub odd_case_comes_by_none : OddCaseComesByNone
odd_case_comes_by_none = (comes_by_split (plus_zero_case ∷ plus_successor_case ∷ []) comes_itself (1, answered) (inr (inl refl)), none)
  where
    none : ComesBy (AnswersEachHead Addition [] first_below_second) plus_input_goal odd_case → ⊥
    none r = true≢false (sym (input_run_quantifies_below Addition addition_ok [] no_world first_below_second addition_is_tested 1 (input_places (addition_marks 1)) plus_kind refl (tt, (tt, tt)) odd_case r).1.0.0)

-- A most general instance over a case with one variable more.
abbrev sum_value : Term
sum_value = lambda z

abbrev loose_values : ℕ → Image
loose_values = in_front (put (base 0) (var 1)) (in_front (put (base 0) z) keep)

pub loose_case_is_split : LooseCaseIsSplit
loose_case_is_split = (split_by nat (nat, refl, refl) (constant_head 0 nat refl refl) by_zero, λ h. true≢false (sym h.0.0))
  where
    general : (F : List Item) (τ : ℕ → Image) → AreTypedItems Addition [] F → Unifies Addition F plus_input_goal.items 1 nat z τ → (ρ : ℕ → Image) × IsTypedInstance Addition F loose_case.items ρ × ((i : ℕ) (A : LfType) → TypeAt (nat ∷ nat ∷ []) i A → as_term (skeleton A) (τ i) ≡ as_term (skeleton A) (after ρ loose_values i))
    general F τ f u = by u.is_instance u.same
      where
        by : IsTypedInstance Addition F plus_input_goal.items τ → as_term (base 0) (τ 1) ≡ z → (ρ : ℕ → Image) × IsTypedInstance Addition F loose_case.items ρ × ((i : ℕ) (A : LfType) → TypeAt (nat ∷ nat ∷ []) i A → as_term (skeleton A) (τ i) ≡ as_term (skeleton A) (after ρ loose_values i))
        by (Y, υ, (X, ω, t, hx, d), hy, e) q = (in_front (put (skeleton of_sum) sum_value) (in_front (put (base 0) Y) keep), (sum_value, in_front (put (base 0) Y) keep, (Y, keep, tt, hy, refl), (nat, refl, refl), refl), same)
          where
            same : (i : ℕ) (A : LfType) → TypeAt (nat ∷ nat ∷ []) i A → as_term (skeleton A) (τ i) ≡ as_term (skeleton A) (after (in_front (put (skeleton of_sum) sum_value) (in_front (put (base 0) Y) keep)) loose_values i)
            same zero A g = ap (λ f. as_term (skeleton A) (f 0)) e ∙ sym (reduce_nil (base 0) Y)
            same (suc zero) A g = ap (λ f. as_term (skeleton A) (f 1)) e ∙ ap (λ f. as_term (skeleton A) (f 0)) d ∙ sym (ap (λ f. as_term (base 0) (f 1)) e ∙ ap (λ f. as_term (base 0) (f 0)) d) ∙ q
            same (suc (suc i)) A (B, (C, g, r), p) = absurd g

    by_zero : IsSplitBy Addition [] first_below_second plus_input_goal 1 nat plus_input_goal.items 0 (constant 0) nat loose_case
    by_zero = record {
      values = loose_values;
      unifier = record {
        typed_items = ((tt, (star, refl, tt)), ((plus_kind, refl, ((nat, refl, refl), ((nat, refl, refl), ((nat, refl, refl), tt)))), (star, refl, tt)));
        unifies = record { is_instance = (var 1, in_front (put (base 0) z) keep, (z, keep, tt, (nat, refl, refl), refl), (nat, (nat, refl, refl), refl), refl); keeps_apart = tt; same = refl };
        most_general = general;
      };
      given = refl;
      local = refl;
      family = refl;
      arguments = refl;
    }
