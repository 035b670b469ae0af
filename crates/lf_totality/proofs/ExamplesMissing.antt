-- A case that is missing, and such that are not; linear clauses.
use Rattle.std.proofs.Common.{◌≡◌, ℕ, zero, suc, [], ◌∷◌, refl, sym, ◌∙◌, subst, arith, inl, inr}
use Rattle.std.specs.Prelude.{true, false, ◌≤◌}
use Rattle.lf.specs.Syntax.{Spine, nil, app, pi, base}
use Rattle.lf.specs.Substitution.{Image, keep, put, substitute_spine, substitute_type, reduce}
use Rattle.lf.specs.AtOnce.{in_front}
use Rattle.lf.specs.Variables.{target, target_arguments, everything}
use Rattle.lf.specs.Subordination.{Member}
use Rattle.lf_checks.specs.Clause.{variables, outside}
use Rattle.lf_checks.specs.Marks.{SamePlaces, input_places, output_places}
use Rattle.lf_cases.specs.Case.{free_variable, HasArguments, covered_places}
use Rattle.lf_totality.specs.Examples.{Addition, addition_marks, nat, z, successor, var, plus_z, plus_s, plus_heads, plus_input_goal, plus_zero_case}
use Rattle.lf_cases.specs.Pattern.{Pattern, of_constant, head_pattern}
use Rattle.lf_cases.specs.Missing.{CommonInstance, IsMissing, IsInstanceOfGoal}
use Rattle.lf_cases.specs.Full.{IsLinear, occurrences_at, occurrences_goal}
use Rattle.lf_totality.specs.ExamplesMissing.{Unfinished, unfinished_heads, ZeroIsMissing, GoalIsNotMissing, LinearClauses}
use Rattle.lf_totality.proofs.Addition.{z_images, z_values, z_terms, s_images, s_values, s_terms, s_first, plus_goal}
use Rattle.lf_totality.proofs.ExampleLemmas.{step}

-- z is no successor
apart : (T : Spine) (σ τ : ℕ → Image) → HasArguments σ plus_zero_case.arguments T → SamePlaces (covered_places plus_zero_case.arguments) T (substitute_spine reduce τ (target_arguments plus_s.type)) → ⊥
apart nil σ τ a b = a
apart (app M T) σ τ (e, a) (f, b) = let q : z ≡ successor _ = sym e ∙ f in absurd cc

shares_none : (p : Pattern) → Member p unfinished_heads → CommonInstance Unfinished [] plus_zero_case p → ⊥
shares_none p (inl e) s = apart s.tuple s.case_values s.clause_values s.of_case (subst (λ q. SamePlaces (covered_places plus_zero_case.arguments) s.tuple (target_arguments (substitute_type reduce s.clause_values q.type))) e s.of_clause)
shares_none p (inr e) s = absurd e

zero_of_goal : IsInstanceOfGoal Unfinished [] plus_input_goal plus_zero_case
zero_of_goal = record {
  typed_items = (tt, (_, refl, tt));
  values = in_front (put (base 0) (var 0)) (in_front (put (base 0) z) keep);
  is_instance = (var 0, in_front (put (base 0) z) keep, (z, keep, tt, (nat, refl, refl), refl), (nat, refl, refl), refl);
  same_family = refl;
  same_given = refl;
  same_local = refl;
  same_arguments = refl;
}

pub zero_missing : ZeroIsMissing
zero_missing = record { of_goal = zero_of_goal; shares_nothing = shares_none }

pub goal_not_missing : GoalIsNotMissing
goal_not_missing = (goal, zero_case)
  where
    goal : IsMissing Unfinished [] unfinished_heads plus_input_goal plus_input_goal → ⊥
    goal h = h.shares_nothing (head_pattern plus_s (of_constant plus_s.type)) (inl refl) (record {
      items = free_variable nat ∷ free_variable nat ∷ [];
      typed_items = ((tt, (_, refl, tt)), (_, refl, tt));
      case_values = in_front (put (base 0) (var 0)) (in_front (put (base 0) (successor (var 1))) keep);
      is_instance = (var 0, in_front (put (base 0) (successor (var 1))) keep, (successor (var 1), keep, tt, (pi nat nat, refl, ((nat, (nat, refl, refl), refl), refl)), refl), (nat, refl, refl), refl);
      used = s_first;
      clause_values = s_images (var 1) (var 0);
      typed_values = s_values Unfinished (nat ∷ nat ∷ []) (var 1) (var 0) (nat, (nat, refl, refl), refl) (nat, refl, refl);
      uses = (((refl, tt), tt), ((refl, tt), tt));
      terms = s_terms (var 1) (var 0);
      given = λ i M e. absurd cc;
      stands = tt;
      tuple = app (successor (var 1)) (app (var 0) (app z nil));
      of_case = (refl, (refl, tt));
      of_clause = (refl, (refl, tt));
    })

    zero_case : IsMissing Addition [] plus_heads plus_input_goal plus_zero_case → ⊥
    zero_case h = h.shares_nothing (head_pattern plus_z (of_constant plus_z.type)) (inl refl) (record {
      items = free_variable nat ∷ [];
      typed_items = (tt, (_, refl, tt));
      case_values = in_front (put (base 0) (var 0)) keep;
      is_instance = (var 0, keep, tt, (nat, refl, refl), refl);
      used = Rattle.lf_checks.specs.Ground.ground_first addition_marks plus_z;
      clause_values = z_images (var 0);
      typed_values = z_values Addition (nat ∷ []) (var 0) (nat, refl, refl);
      uses = (tt, ((refl, tt), tt));
      terms = z_terms (var 0);
      given = λ i M e. absurd cc;
      stands = tt;
      tuple = app z (app (var 0) (app z nil));
      of_case = (refl, (refl, tt));
      of_clause = (refl, (refl, tt));
    })

two_more : suc (suc zero) ≤ suc zero → ⊥
two_more e = omega arith

pub linear_clauses : LinearClauses
linear_clauses = ((head, step addition_marks plus_s (λ U A. (x : ℕ) → variables plus_s x ≡ true → (occurrences_goal (output_places (addition_marks (target A))) x A ≤ 1) × (U x ≡ true → occurrences_goal (output_places (addition_marks (target A))) x A ≡ 0)) (λ U. Unit {0}) 3 0 s_first plus_goal refl (outputs, tt)), not_linear)
  where
    head : (x : ℕ) → variables plus_s x ≡ true → outside plus_s.type everything x ≡ false → occurrences_at (input_places (addition_marks 1)) x (target_arguments plus_s.type) ≤ 1
    head zero v o = omega arith
    head (suc zero) v o = omega arith
    head (suc (suc zero)) v o = omega arith
    head (suc (suc (suc zero))) v o = omega arith
    head (suc (suc (suc (suc x)))) v o = absurd cc

    outputs : (x : ℕ) → variables plus_s x ≡ true → (occurrences_goal (output_places (addition_marks 1)) x plus_goal ≤ 1) × (s_first x ≡ true → occurrences_goal (output_places (addition_marks 1)) x plus_goal ≡ 0)
    outputs zero v = (omega arith, λ u. refl)
    outputs (suc zero) v = (omega arith, λ u. absurd cc)
    outputs (suc (suc zero)) v = (omega arith, λ u. refl)
    outputs (suc (suc (suc zero))) v = (omega arith, λ u. refl)
    outputs (suc (suc (suc (suc x)))) v = (omega arith, λ u. refl)

    not_linear : IsLinear (λ a. Rattle.lf_checks.specs.Marks.input ∷ Rattle.lf_checks.specs.Marks.input ∷ []) Rattle.lf_totality.specs.ExamplesMissing.eq_r → ⊥
    not_linear h = two_more (h.0 0 refl refl)
