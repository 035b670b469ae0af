use Rattle.lf_coverage.proofs.SubordinateRuns.{answered_split_is_solved, answered_split_is_answer}
use Rattle.lf_coverage.proofs.answered_split_is_solved.Goals as goal

pub returns-clause-split : goal.returns-clause-split
returns-clause-split c = answered_split_is_solved

pub returns-clause-answer : goal.returns-clause-answer
returns-clause-answer c = answered_split_is_answer
