use Rattle.lf_numbered.proofs.NumberedSplitsRuns.{answered_by_number_stays_typed, answered_by_number_covers, answered_by_number_covers_case, answered_by_number_is_answer, answered_by_number_gives_outputs}
use Rattle.lf_numbered.proofs.answered_by_number_covers.Goals as goal

pub returns-clause-typed : goal.returns-clause-typed
returns-clause-typed c = answered_by_number_stays_typed

pub returns-clause-run : goal.returns-clause-run
returns-clause-run c = answered_by_number_covers

pub returns-clause-case : goal.returns-clause-case
returns-clause-case c = answered_by_number_covers_case

pub returns-clause-answer : goal.returns-clause-answer
returns-clause-answer c = answered_by_number_is_answer

pub returns-clause-outputs : goal.returns-clause-outputs
returns-clause-outputs c = answered_by_number_gives_outputs
