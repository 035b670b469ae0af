use Rattle.lf_numbered.proofs.NumberedBesideLater.{asked_is_split}
use Rattle.lf_numbered.proofs.NumberedBesideLaterRuns.{asked_is_beside, answered_is_beside, open_is_not_beside, later_run_gives_outputs, later_answers_give_outputs}
use Rattle.lf_numbered.proofs.later_outputs_are_covered.Goals as goal

pub returns-clause-beside : goal.returns-clause-beside
returns-clause-beside c = asked_is_beside

pub returns-clause-split : goal.returns-clause-split
returns-clause-split c = asked_is_split

pub returns-clause-run : goal.returns-clause-run
returns-clause-run c = later_run_gives_outputs

pub returns-clause-answers : goal.returns-clause-answers
returns-clause-answers c = later_answers_give_outputs

pub returns-clause-open : goal.returns-clause-open
returns-clause-open c = open_is_not_beside

pub returns-clause-stays : goal.returns-clause-stays
returns-clause-stays c = answered_is_beside
