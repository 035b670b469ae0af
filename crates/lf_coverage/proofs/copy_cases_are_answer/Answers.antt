use Rattle.lf_coverage.proofs.ExamplesCopyingSplit.{copy_answer as proved}
use Rattle.lf_coverage.proofs.copy_cases_are_answer.Goals as goal

pub returns : goal.returns
returns c = proved
