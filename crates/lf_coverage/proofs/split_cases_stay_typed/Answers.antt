use Rattle.lf_coverage.proofs.TypedCases.{split_cases_stay_typed}
use Rattle.lf_coverage.proofs.split_cases_stay_typed.Goals as goal

pub returns : goal.returns
returns c = split_cases_stay_typed
