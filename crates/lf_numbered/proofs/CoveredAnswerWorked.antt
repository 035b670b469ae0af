-- Worked: all that is asked of the coverage of plus's inputs and of v's outputs, from the answers of `cover`.
use Rattle.std.proofs.Common.{◌≡◌, ℕ, zero, suc, [], inl, refl, sym, subst}
use Rattle.std.specs.Prelude.{true, false, ◌⊎◌, Some}
use Rattle.lf.specs.Syntax.{LfType, Kind, star}
use Rattle.lf.specs.Variables.{binders, everything, target, target_arguments}
use Rattle.lf_checks.specs.Clause.{IsSubgoal, from_entry, outside, scope, variables}
use Rattle.lf_checks.specs.Ground.{UsesGoal, ground_after, ground_first}
use Rattle.lf_checks.specs.GroundUntil.{ground_until}
use Rattle.lf_checks.specs.Marks.{HasSoundMarks, NoneFree, free_places, input_places}
use Rattle.lf_checks.specs.Modes.{AllGround, EachHypothesis, InFreePlace, WellModedTo, occurs_at}
use Rattle.lf_checks.specs.Worlded.{IsSequence, no_instance}
use Rattle.lf_cases.specs.Pattern.{origin}
use Rattle.lf_totality.specs.Examples.{Addition, addition_marks, first_below_second, plus_heads}
use Rattle.lf_totality.proofs.ExampleLemmas.{step}
use Rattle.lf_numbered.specs.CoveredAnswerExamples.{EntryAnswerPasses, PlusAnswerPasses}
use Rattle.lf_numbered.specs.CoveredAnswerGives.{OutputGoalIsCovered}
use Rattle.lf_numbered.specs.CoveredAnswerPasses.{InputGoalIsCovered}
use Rattle.lf_numbered.specs.EntryPatternsExamples.{Laters, asking_block, asking_clause, asking_entry, later_marks, later_worlds}
use Rattle.lf_numbered.specs.NumberedBesideLater.{asked_kind, asked_type}
use Rattle.lf_numbered.proofs.CoveredAnswerExamples.{entry_answer_first, plus_answer}
use Rattle.lf_numbered.proofs.CoveredAnswerPasses.{covered_answer_passes_inputs, covered_answers_pass_outputs}
use Rattle.lf_numbered.proofs.EntryPatternsGoals.{blocks, free, ok}
use Rattle.lf_coverage.proofs.ExamplesSubordinate.{addition_is_tested}
use Rattle.lf_numbered.proofs.NumberedNeedsPlus.{addition_setting, plus_clauses}
use Rattle.lf_coverage.proofs.Parts.{some_same}

pub plus_answer_passes : PlusAnswerPasses
plus_answer_passes V = covered_answer_passes_inputs Addition 4 [] addition_setting V (λ B m. absurd m) first_below_second addition_is_tested addition_marks 1 ((_, refl, (tt, (tt, tt))), tt) plus_heads plus_clauses (λ K e. subst (InputGoalIsCovered Addition 4 [] first_below_second addition_marks 1 plus_heads) (some_same e) (_, refl, plus_answer))

-- The clause of v is well-moded: n is ground at first, and D after the subgoal.
moded : (n : ℕ) → WellModedTo n Laters later_marks (λ a. false) everything asking_clause
moded zero = tt
moded (suc n) = ((star, refl, tt), step later_marks asking_clause (λ U A. HasSoundMarks Laters (target A) (later_marks (target A)) × UsesGoal U (input_places (later_marks (target A))) A × EachHypothesis (WellModedTo n Laters later_marks (λ a. false)) (λ a. false) (scope asking_clause) (outside asking_clause.type asking_clause.fixed) U A) (λ U. AllGround later_marks asking_clause U) 1 0 (ground_first later_marks asking_clause) asked_type refl (((asked_kind, refl, (tt, tt)), ((refl, tt), tt), tt), (tt, ground)))
  where
    ground : (x : ℕ) → variables asking_clause x ≡ true → outside asking_clause.type everything x ≡ false → (ground_after later_marks asking_clause asked_type (ground_first later_marks asking_clause) x ≡ true) ⊎ (occurs_at (free_places (later_marks 3)) x (target_arguments asking_clause.type) ≡ true) ⊎ InFreePlace later_marks asking_clause x
    ground zero e o = absurd cc
    ground (suc zero) e o = inl refl
    ground (suc (suc x)) e o = absurd cc

-- It has one subgoal.
of_subgoal : (P : ℕ → LfType → Type 0) → P 0 asked_type → (i : ℕ) (A : LfType) → IsSubgoal asking_clause i A → P i A
of_subgoal P p zero A (v, g) = subst (P 0) (sym g) p
of_subgoal P p (suc zero) A (v, g) = absurd cc
of_subgoal P p (suc (suc zero)) A (v, g) = absurd cc
of_subgoal P p (suc (suc (suc i))) A (v, (B, (C, (D, g, e), f), h)) = absurd g

pub entry_answer_passes : EntryAnswerPasses
entry_answer_passes V more below test =
    covered_answers_pass_outputs Laters 4 later_worlds (record { signature = ok; blocks = blocks; free = free }) V more below test later_marks (λ a. false) asking_clause (from_entry asking_block [] asking_entry [] (inl refl) refl) moded
    (of_subgoal (λ i A. IsSequence Laters later_worlds (scope asking_clause) (binders [] A)) no_instance)
    (of_subgoal (λ i A. NoneFree (later_marks (target A))) tt)
    (λ i A sub K e closed d. of_subgoal (λ i A. (K : Kind) → Laters.kinds (target A) ≡ Some K → OutputGoalIsCovered Laters 4 later_worlds below later_marks (origin d) (ground_until everything later_marks asking_clause i) A K) (λ K e. subst (OutputGoalIsCovered Laters 4 later_worlds below later_marks (origin d) (ground_first later_marks asking_clause) asked_type) (some_same e) (entry_answer_first below d)) i A sub K e)
