-- Worked goals of outputs.
use Rattle.std.proofs.Common.{◌≡◌, ℕ, zero, suc, [], ◌∷◌, refl, sym, subst, true≢false}
use Rattle.std.specs.Prelude.{Bool, true, false, Some}
use Rattle.lf.specs.Syntax.{LfType, Kind, nil, app, atom, star}
use Rattle.lf.specs.Typing.{IsKind, IsSignature, IsType}
use Rattle.lf_checks.specs.Clause.{from_constant, outside}
use Rattle.lf_checks.specs.Ground.{ground_first}
use Rattle.lf_checks.specs.Worlded.{no_instance}
use Rattle.lf.specs.Variables.{everything}
use Rattle.lf_cases.specs.Split.{at_leaf}
use Rattle.lf_totality.specs.Examples.{Addition, addition_marks, first_below_second, nat, on_three, plus_kind, plus_s, var}
use Rattle.lf_totality.specs.ExamplesGroups.{one_kind}
use Rattle.lf_totality.specs.ExamplesReached.{open_clause, open_marks}
use Rattle.lf_totality.proofs.Addition.{addition_ok}
use Rattle.lf_coverage.specs.Calls.{IsBeside, PlacesIn}
use Rattle.lf_coverage.specs.ExamplesAnsweredOutputs.{plus_output_goal}
use Rattle.lf_coverage.specs.ExamplesCoveredOutputRuns.{OpenGoalIsTypedCase, Opened, PlusCandidateRunGives, PlusGoalIsBeside}
use Rattle.lf_coverage.proofs.CoveredOutputRuns.{candidate_run_gives_outputs, output_goal_is_beside, output_places_are_below}
use Rattle.lf_coverage.proofs.Examples.{plus_subordination}
use Rattle.lf_coverage.proofs.ExamplesLeaf.{output_leaf}
use Rattle.lf_coverage.proofs.ExamplesOutputs.{open_goal_is_untyped}
use Rattle.lf_coverage.proofs.ExamplesSubordinate.{addition_is_tested}
use Rattle.lf_coverage.proofs.OutputTyped.{output_goal_is_typed_case}
use Rattle.lf_coverage.proofs.Parts.{some_same}

abbrev plus_ground : ℕ → Bool
plus_ground = ground_first addition_marks plus_s

pub plus_goal_is_beside : PlusGoalIsBeside
plus_goal_is_beside = (
  output_goal_is_beside Addition [] first_below_second addition_marks 3 plus_s.type refl plus_ground 0 (on_three 1 (var 3) (var 2) (var 1)) (refl, refl) plus_kind refl (first_below_second 1) (plus_subordination.self_contained 1 (plus_kind, refl)) refl,
  record { self_contained = plus_subordination.self_contained 0 (star, refl); kind = plus_kind; of_family = refl; places = (refl, tt); locals = tt },
  none,
)
  where
    none : IsBeside Addition [] (λ a. false) plus_output_goal → ⊥
    none b = by (subst (PlacesIn (λ a. false) (false ∷ false ∷ true ∷ [])) (some_same (sym b.of_family)) b.places)
      where
        by : PlacesIn (λ a. false) (false ∷ false ∷ true ∷ []) plus_kind → ⊥
        by (e, p) = true≢false (sym e)

outer : (j : ℕ) → outside plus_s.type everything j ≡ true → plus_ground j ≡ true
outer zero e = absurd cc
outer (suc zero) e = absurd cc
outer (suc (suc zero)) e = absurd cc
outer (suc (suc (suc zero))) e = absurd cc
outer (suc (suc (suc (suc j)))) e = refl

pub plus_candidate_run_gives : PlusCandidateRunGives
plus_candidate_run_gives = (at_leaf output_leaf, candidate_run_gives_outputs Addition addition_ok [] (λ B m. absurd m) first_below_second addition_is_tested addition_marks 1 (plus_kind, refl) 3 plus_s.type refl refl plus_ground (λ j e. outer j e) 0 (on_three 1 (var 3) (var 2) (var 1)) (refl, refl) no_instance ((refl, tt), ((refl, tt), tt)) (plus_kind, refl, (tt, (tt, tt))) tt plus_kind refl (at_leaf output_leaf), output_places_are_below Addition addition_ok [] (λ B m. absurd m) first_below_second addition_is_tested 1 (plus_kind, refl) 3 plus_s.type refl refl 0 (on_three 1 (var 3) (var 2) (var 1)) (refl, refl) plus_kind refl)

opened_ok : IsSignature Opened
opened_ok = record { types_ok = types; kinds_ok = kinds }
  where
    types : (c : ℕ) (A : LfType) → Opened.types c ≡ Some A → IsType Opened [] A
    types zero A e = subst (IsType Opened []) (some_same e) ((star, refl, tt), (((star, refl, tt), (star, refl, tt)), ((one_kind, refl, ((_, refl, ((_, (_, refl, refl), refl), refl)), tt)), ((star, refl, tt), ((one_kind, refl, ((nat, refl, refl), tt)), (_, refl, ((_, (_, (_, (_, refl, refl), refl), refl), ((_, (_, (_, (_, (_, refl, refl), refl), refl), refl), refl), refl)), ((_, (_, (_, refl, refl), refl), refl), tt))))))))
    types (suc n) A e = absurd cc

    kinds : (a : ℕ) (K : Kind) → Opened.kinds a ≡ Some K → IsKind Opened [] K
    kinds zero K e = subst (IsKind Opened []) (some_same e) tt
    kinds (suc zero) K e = subst (IsKind Opened []) (some_same e) ((star, refl, tt), tt)
    kinds (suc (suc zero)) K e = subst (IsKind Opened []) (some_same e) ((star, refl, tt), ((one_kind, refl, ((nat, refl, refl), tt)), tt))
    kinds (suc (suc (suc zero))) K e = subst (IsKind Opened []) (some_same e) ((star, refl, tt), tt)
    kinds (suc (suc (suc (suc n)))) K e = absurd cc

pub open_goal_is_typed_case : OpenGoalIsTypedCase
open_goal_is_typed_case =
    let (t, l, n) = output_goal_is_typed_case Opened opened_ok [] (λ B m. absurd m) first_below_second open_marks open_clause (from_constant 0 open_clause.type refl) (ground_first open_marks open_clause) 0 (atom 3 (app (var 1) nil)) (refl, refl) tt (one_kind, refl, tt) tt one_kind refl in
    (t, l, n, open_goal_is_untyped Opened)
