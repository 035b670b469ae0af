use Rattle.lf_coverage.proofs.RenumberedStores.{ready_under_numbers}
use Rattle.lf_coverage.proofs.ready_under_numbers.Goals as goal

pub returns : goal.returns
returns c = ready_under_numbers
