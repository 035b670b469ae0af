use Rattle.lf_coverage.proofs.RenumberedStores.{never_under_numbers}
use Rattle.lf_coverage.proofs.never_under_numbers.Goals as goal

pub returns : goal.returns
returns c = never_under_numbers
