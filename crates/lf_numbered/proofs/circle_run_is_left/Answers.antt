use Rattle.lf_numbered.proofs.LeftExamplesRun.{circle_has_head, circle_is_not_refuted, circle_is_unified, circle_run_is_left, circle_tuples_are_true}
use Rattle.lf_numbered.proofs.circle_run_is_left.Goals as goal

pub returns-clause-run : goal.returns-clause-run
returns-clause-run c = circle_run_is_left

pub returns-clause-tuples : goal.returns-clause-tuples
returns-clause-tuples c = circle_tuples_are_true

pub returns-clause-unifier : goal.returns-clause-unifier
returns-clause-unifier c = circle_is_unified

pub returns-clause-not_refuted : goal.returns-clause-not_refuted
returns-clause-not_refuted c = circle_is_not_refuted

pub returns-clause-head : goal.returns-clause-head
returns-clause-head c = circle_has_head
