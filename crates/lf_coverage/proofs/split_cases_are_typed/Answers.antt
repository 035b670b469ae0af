use Rattle.lf_coverage.proofs.Runs.{split_cases_are_typed}
use Rattle.lf_coverage.proofs.split_cases_are_typed.Goals as goal

pub returns : goal.returns
returns c = split_cases_are_typed
