-- What `conclude` asks of coverage, from the answers of `cover`.
use Rattle.std.proofs.Common.{◌≡◌, ℕ, zero, suc, List}
use Rattle.std.specs.Prelude.{Bool, true, false, Option, Some, None}
use Rattle.lf.specs.Syntax.{LfType}
use Rattle.lf.specs.Variables.{everything, nothing, target, Within}
use Rattle.lf_checks.specs.Below.{IsSubordination}
use Rattle.lf_checks.specs.Clause.{Clause, IsSubgoal, outside, scope, variables}
use Rattle.lf_checks.specs.GroundUntil.{ground_past, ground_until}
use Rattle.lf_checks.specs.Marks.{Mark}
use Rattle.lf_checks.specs.Parts.{type_at}
use Rattle.lf_checks.proofs.Marks.{sound_inputs}
use Rattle.lf_checks.proofs.Numbered.{walked}
use Rattle.lf_cases.specs.Cover.{CoveredOutputs}
use Rattle.lf_cases.proofs.Subordinate.{below_is_subordination}
use Rattle.lf_totality.specs.Checks.{AreAllBelow}
use Rattle.lf_numbered.specs.CoveredAnswerPasses.{CoveredAnswerPassesInputs, CoveredAnswersPassOutputs}
use Rattle.lf_numbered.proofs.CoveredAnswerGives.{answer_itself, clause_declared, covered_answer_gives_inputs, tested_are_all_below}
use Rattle.lf_numbered.proofs.NumberedCandidatesGoals.{answers_give_outputs}
use Rattle.lf_coverage.proofs.OutputModed.{starts, stays, subgoal_passes}

pub covered_answer_passes_inputs : CoveredAnswerPassesInputs
covered_answer_passes_inputs Σ first W r V more below test m a ((K, e, sound), none) ps heads answer =
    let (C, g, covered) = answer K e in (
      below a,
      tested_are_all_below Σ W V more below test a,
      covered_answer_gives_inputs Σ first W r below test m a K (record { signature = r.signature; free = r.free; of_family = e; chosen_only = sound_inputs nothing (m a) K sound none }) C g ps heads covered,
    )

-- What stands outside the clause is ground before each subgoal.
outside_until : (m : ℕ → List Mark) (c : Clause) (i : ℕ) → Within (outside c.type everything) (ground_until everything m c i)
outside_until m c zero l v = starts m c l v
outside_until m c (suc i) l v = kept (variables c i) (type_at (scope c) i) (outside_until m c i l v)
  where
    kept : (b : Bool) (o : Option LfType) → ground_until everything m c i l ≡ true → ground_past m c b o (ground_until everything m c i) l ≡ true
    kept true o u = u
    kept false None u = u
    kept false (Some A) u = stays m c A (ground_until everything m c i) l u

pub covered_answers_pass_outputs : CoveredAnswersPassOutputs
covered_answers_pass_outputs Σ first W r V more below test m moded c d w worlded none answers = (walked everything m c (λ U A. (S : ℕ → Bool) × AreAllBelow Σ V S (target c.type) × CoveredOutputs Σ m W S c U A) (λ U. Unit {0})).1 (each, tt)
  where
    s : IsSubordination Σ W below
    s = below_is_subordination Σ r.signature W r.blocks below test

    each : (i : ℕ) (A : LfType) → IsSubgoal c i A → (S : ℕ → Bool) × AreAllBelow Σ V S (target c.type) × CoveredOutputs Σ m W S c (ground_until everything m c i) A
    each i A sub =
        let (marks, needs) = subgoal_passes Σ m moded c w i A sub in
        let (K, e, sound) = marks in (
          below (target c.type),
          tested_are_all_below Σ W V more below test (target c.type),
          answers_give_outputs Σ r.signature W r.blocks below test first r.free m (target c.type) (clause_declared Σ r.signature W r.blocks c d) c d (s.itself (target c.type)) (ground_until everything m c i) (outside_until m c i) i A sub (worlded i A sub) needs marks (none i A sub) K e
              (λ closed b. answer_itself Σ first W below m c b (ground_until everything m c i) A K (answers i A sub K e closed b)),
        )
