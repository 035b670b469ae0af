use Rattle.lf_numbered.proofs.NumberedBesideRuns.{unified_by_number_is_split, unified_by_number_covers, unified_by_number_is_answer, unified_by_number_covers_inputs, unified_by_number_gives_outputs}
use Rattle.lf_numbered.proofs.unified_by_number_covers.Goals as goal

pub returns-clause-split : goal.returns-clause-split
returns-clause-split c = unified_by_number_is_split

pub returns-clause-run : goal.returns-clause-run
returns-clause-run c = unified_by_number_covers

pub returns-clause-answer : goal.returns-clause-answer
returns-clause-answer c = unified_by_number_is_answer

pub returns-clause-inputs : goal.returns-clause-inputs
returns-clause-inputs c = unified_by_number_covers_inputs

pub returns-clause-outputs : goal.returns-clause-outputs
returns-clause-outputs c = unified_by_number_gives_outputs
