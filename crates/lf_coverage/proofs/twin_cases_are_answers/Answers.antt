use Rattle.lf_coverage.proofs.ExamplesTwinsCases.{twin_cases as proved}
use Rattle.lf_coverage.proofs.twin_cases_are_answers.Goals as goal

pub returns : goal.returns
returns c = proved
