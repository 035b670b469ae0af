use Rattle.lf_coverage.proofs.RefutedSplits.{refuted_gives_none, run_in_extension, solved_gives_case_beside}
use Rattle.lf_coverage.proofs.refuted_gives_none.Goals as goal

pub returns-clause-runs : goal.returns-clause-runs
returns-clause-runs c = run_in_extension

pub returns-clause-none : goal.returns-clause-none
returns-clause-none c = refuted_gives_none

pub returns-clause-case : goal.returns-clause-case
returns-clause-case c = solved_gives_case_beside
