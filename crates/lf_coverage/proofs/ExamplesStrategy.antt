-- Worked cases of a run that is never stuck.
use Rattle.std.proofs.Common.{◌≡◌, ℕ, zero, suc, ◌≤◌, [], ◌∷◌, inl, inr, refl, sym, ap, subst, arith, true≢false}
use Rattle.std.specs.Prelude.{true, false, ◌⊎◌}
use Rattle.lf.specs.Syntax.{LfType, nil, app, base}
use Rattle.lf.specs.AtOnce.{in_front}
use Rattle.lf.specs.Subordination.{Member}
use Rattle.lf.specs.Substitution.{keep, put, reduce, substitute_type}
use Rattle.lf.specs.Typing.{ImageHasType, TypeAt}
use Rattle.lf.specs.Variables.{everything, nothing, target_arguments}
use Rattle.lf.proofs.Partial.{uses_type_all}
use Rattle.lf_checks.specs.Clause.{constant_clause, from_constant, outside, variables}
use Rattle.lf_checks.specs.Marks.{input_places}
use Rattle.lf_cases.specs.Candidates.{case_candidates}
use Rattle.lf_cases.specs.Case.{free_variable}
use Rattle.lf_cases.specs.Cover.{AreTerms}
use Rattle.lf_cases.specs.Full.{AppliesToAll, IsFull, IsLinear, occurrences_at}
use Rattle.lf_cases.specs.Missing.{CommonInstance}
use Rattle.lf_cases.specs.Pattern.{Pattern}
use Rattle.lf_cases.specs.Reached.{IsInstanceOf, of_first}
use Rattle.lf_totality.specs.Examples.{Addition, addition_marks, first_below_second, nat, on_two, plus_heads, plus_input_goal, plus_kind, plus_s, plus_successor_case, plus_z, plus_zero_case, successor, var, z}
use Rattle.lf_totality.specs.ExamplesReached.{Applied, Equality, applied_clause, head_of}
use Rattle.lf_totality.specs.ExamplesMissing.{eq_r}
use Rattle.lf_totality.proofs.Addition.{addition_ok}
use Rattle.lf_totality.proofs.ExamplesFull.{full_clauses}
use Rattle.lf_totality.proofs.ExamplesMissing.{linear_clauses}
use Rattle.lf_coverage.specs.ExamplesStrategy.{CasesAreStrategys, HeadsAreStrategys, PlusSplitsAtFirst, SolvedIsNotStuck, SuccessorIsNotStuck}
use Rattle.lf_coverage.specs.ExamplesMatching.{plus_z_head}
use Rattle.lf_coverage.specs.ExamplesStuck.{Zeros, zeros_below, one_input, solved_case, two_inputs}
use Rattle.lf_coverage.specs.ExamplesTyped.{plus_s_head}
use Rattle.lf_coverage.specs.FullMatching.{PlacesHavePatterns}
use Rattle.lf_coverage.specs.Stuck.{AreHeadsBeside, IsStrategyCase, IsStrategyHead}
use Rattle.lf_coverage.specs.SubordinateRuns.{ComesBy, comes_by_split, comes_itself}
use Rattle.lf_coverage.specs.UnifiedSplit.{AnswersEachHead}
use Rattle.lf_coverage.proofs.ExamplesMatching.{plus_is_instance}
use Rattle.lf_coverage.proofs.ExamplesStuck.{applied_is_reached, no_values}
use Rattle.lf_coverage.proofs.ExamplesSubordinate.{addition_is_tested, answered}
use Rattle.lf_coverage.proofs.StuckRuns.{input_run_is_never_stuck, input_run_is_strategys}
use Rattle.lf_coverage.proofs.HeadMatching.{head_matching_decides}
use Rattle.lf_coverage.proofs.NoCandidate.{no_candidate_is_instance}

plus_z_linear : IsLinear addition_marks plus_z
plus_z_linear = (once, tt)
  where
    once : (x : ℕ) → variables plus_z x ≡ true → outside plus_z.type everything x ≡ false → occurrences_at (input_places (addition_marks 1)) x (target_arguments plus_z.type) ≤ 1
    once zero v o = omega arith
    once (suc x) v o = absurd (true≢false o)

plus_z_full : IsFull Addition first_below_second addition_marks plus_z
plus_z_full = ((plus_kind, refl, ((nat, refl, tt), ((nat, refl, none), tt))), tt)
  where
    none : AppliesToAll (first_below_second 0) (nat ∷ []) [] nil
    none j X l g b = absurd (omega arith)

plus_are_heads : (p : Pattern) → Member p plus_heads → IsStrategyHead Addition first_below_second addition_marks 1 p
plus_are_heads p (inl e) = record { constant = 2; type = plus_z.type; declared = refl; of_family = refl; is_head = e; patterns = (tt, (refl, tt)); linear = plus_z_linear; full = plus_z_full }
plus_are_heads p (inr (inl e)) = record { constant = 3; type = plus_s.type; declared = refl; of_family = refl; is_head = e; patterns = ((refl, tt), (refl, tt)); linear = linear_clauses.0; full = full_clauses.0 }
plus_are_heads p (inr (inr l)) = absurd l

zero_is_head : IsStrategyHead Zeros zeros_below two_inputs 2 (head_of (on_two 2 z z))
zero_is_head = record { constant = 2; type = on_two 2 z z; declared = refl; of_family = refl; is_head = refl; patterns = (tt, (tt, tt)); linear = applied_is_reached.2; full = applied_is_reached.3 }

pub heads_are_strategys : HeadsAreStrategys
heads_are_strategys = (plus_are_heads, zero_is_head, none, twice)
  where
    none : IsStrategyHead Applied first_below_second one_input 2 (head_of applied_clause.type) → ⊥
    none h =
        let q : PlacesHavePatterns nothing everything (true ∷ []) (target_arguments applied_clause.type) = subst (PlacesHavePatterns nothing everything (true ∷ [])) (sym (ap (λ p. target_arguments p.type) h.is_head)) h.patterns in
        true≢false (sym q.0)

    twice : IsStrategyHead Equality zeros_below two_inputs 2 (head_of eq_r.type) → ⊥
    twice h = linear_clauses.1 (subst (λ U. IsLinear two_inputs (constant_clause U)) (sym (ap (λ p. p.clause.type) h.is_head)) h.linear)

-- plus (s X) Y _ comes by s
comes : ComesBy (AnswersEachHead Addition [] first_below_second) plus_input_goal plus_successor_case
comes = comes_by_split (plus_zero_case ∷ plus_successor_case ∷ []) comes_itself (1, answered) (inr (inl refl))

successor_run : (plus_successor_case.family ≡ 1) × IsStrategyCase first_below_second addition_marks plus_successor_case × AreHeadsBeside Addition first_below_second addition_marks plus_heads plus_successor_case
successor_run = input_run_is_strategys Addition addition_ok first_below_second addition_is_tested addition_marks 1 plus_kind refl (tt, (tt, tt)) plus_heads plus_are_heads plus_successor_case comes ((refl, tt), (refl, tt))

pub cases_are_strategys : CasesAreStrategys
cases_are_strategys = (
  record { none_given = refl; inputs = refl; quantifies_below = (tt, (tt, tt)); patterns = (refl, (refl, tt)) },
  successor_run.1,
  record { none_given = refl; inputs = refl; quantifies_below = (tt, tt); patterns = (tt, (refl, tt)) },
  λ c. true≢false (sym c.patterns.1.0),
  λ c. true≢false (sym c.quantifies_below.0.0),
  λ c. third c.inputs,
)
  where
    third : (true ∷ true ∷ true ∷ []) ≡ (true ∷ true ∷ false ∷ []) → ⊥
    third e = cc

shares_s : CommonInstance Addition [] plus_successor_case plus_s_head
shares_s = plus_is_instance.0.0

pub successor_is_not_stuck : SuccessorIsNotStuck
successor_is_not_stuck = (
  shares_s,
  refl,
  no_candidate_is_instance Addition addition_ok first_below_second addition_is_tested addition_marks plus_successor_case successor_run.1 plus_kind refl (tt, (tt, tt)) plus_s_head (successor_run.2 plus_s_head (inr (inl refl))).0 (successor_run.2 plus_s_head (inr (inl refl))).1 shares_s refl,
  (input_run_is_never_stuck Addition addition_ok first_below_second addition_is_tested addition_marks 1 plus_kind refl (tt, (tt, tt)) plus_heads plus_are_heads plus_successor_case comes ((refl, tt), (refl, tt))).0,
)

-- with z for Y
shares_zero : CommonInstance Zeros [] solved_case (head_of (on_two 2 z z))
shares_zero = record {
  items = [];
  typed_items = tt;
  case_values = in_front (put (base 0) z) keep;
  is_instance = (z, keep, tt, (nat, refl, refl), refl);
  used = everything;
  clause_values = keep;
  typed_values = no_values;
  uses = (tt, (tt, tt));
  terms = λ i o u. absurd (true≢false o);
  given = λ i M e. absurd cc;
  stands = tt;
  tuple = app z (app z nil);
  of_case = (refl, (refl, tt));
  of_clause = (refl, (refl, tt));
}

pub solved_is_not_stuck : SolvedIsNotStuck
solved_is_not_stuck = (of_first [] (inl shares_zero) refl, λ u. by (u.no_candidate (head_of (on_two 2 z z)) (inl refl)))
  where
    by : (case_candidates solved_case (head_of (on_two 2 z z)) ≡ []) ⊎ (CommonInstance Zeros [] solved_case (head_of (on_two 2 z z)) → ⊥) → ⊥
    by (inl e) = absurd cc
    by (inr a) = a shares_zero

-- plus z Y _ is one of both
shares_z : CommonInstance Addition [] plus_input_goal plus_z_head
shares_z = record {
  items = free_variable nat ∷ [];
  typed_items = (tt, (_, refl, tt));
  case_values = in_front (put (base 0) (var 0)) (in_front (put (base 0) z) keep);
  is_instance = (var 0, in_front (put (base 0) z) keep, (z, keep, tt, (nat, refl, refl), refl), (nat, refl, refl), refl);
  used = everything;
  clause_values = in_front (put (base 0) (var 0)) keep;
  typed_values = record { typed = typed; closed = λ i A g u. uses_type_all everything A (λ j. refl) };
  uses = (tt, ((refl, tt), tt));
  terms = terms;
  given = λ i M e. absurd cc;
  stands = tt;
  tuple = app z (app (var 0) (app z nil));
  of_case = (refl, (refl, tt));
  of_clause = (refl, (refl, tt));
}
  where
    typed : (i : ℕ) (A : LfType) → TypeAt (nat ∷ []) i A → everything i ≡ true → ImageHasType Addition (nat ∷ []) (in_front (put (base 0) (var 0)) keep i) (substitute_type reduce (in_front (put (base 0) (var 0)) keep) A)
    typed zero A g u = subst (λ X. ImageHasType Addition (nat ∷ []) (put (base 0) (var 0)) (substitute_type reduce (in_front (put (base 0) (var 0)) keep) X)) (sym g) (refl, (nat, refl, refl))
    typed (suc i) A (B, g, r) u = absurd g

    terms : AreTerms plus_z everything (in_front (put (base 0) (var 0)) keep)
    terms zero o u = tt
    terms (suc i) o u = absurd (true≢false o)

goal_run : (plus_input_goal.family ≡ 1) × IsStrategyCase first_below_second addition_marks plus_input_goal × AreHeadsBeside Addition first_below_second addition_marks plus_heads plus_input_goal
goal_run = input_run_is_strategys Addition addition_ok first_below_second addition_is_tested addition_marks 1 plus_kind refl (tt, (tt, tt)) plus_heads plus_are_heads plus_input_goal comes_itself (refl, (refl, tt))

goal_is_none : (p : Pattern) → Member p plus_heads → IsInstanceOf Addition [] plus_input_goal p → ⊥
goal_is_none p (inl e) h = plus_is_instance.1 (subst (IsInstanceOf Addition [] plus_input_goal) e h)
goal_is_none p (inr (inl e)) h = let q : var 1 ≡ successor (var 3) = ((head_matching_decides Addition addition_ok [] (λ B m. absurd m) plus_input_goal plus_s (from_constant 3 plus_s.type refl) tt (goal_run.2 plus_s_head (inr (inl refl))).1 refl plus_kind refl (tt, (tt, tt))).0.0 (subst (IsInstanceOf Addition [] plus_input_goal) e h)).2.0 in absurd cc
goal_is_none p (inr (inr l)) h = absurd l

pub plus_splits_at_first : PlusSplitsAtFirst
plus_splits_at_first = ((goal_is_none, (1, of_first [] (inl shares_z) refl, answered)), λ Cs h. h.0 plus_s_head (inr (inl refl)) plus_is_instance.0)
