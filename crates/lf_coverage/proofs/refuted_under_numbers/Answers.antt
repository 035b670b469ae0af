use Rattle.lf_coverage.proofs.RefutingNumbers.{run_under_numbers, refuted_under_numbers, refuted_gives_none_under_numbers, refuted_is_apart_under_numbers}
use Rattle.lf_coverage.proofs.refuted_under_numbers.Goals as goal

pub returns-clause-run : goal.returns-clause-run
returns-clause-run c = run_under_numbers

pub returns-clause-store : goal.returns-clause-store
returns-clause-store c = refuted_under_numbers

pub returns-clause-none : goal.returns-clause-none
returns-clause-none c = refuted_gives_none_under_numbers

pub returns-clause-apart : goal.returns-clause-apart
returns-clause-apart c = refuted_is_apart_under_numbers
