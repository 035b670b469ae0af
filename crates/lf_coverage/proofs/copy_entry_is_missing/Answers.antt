use Rattle.lf_coverage.proofs.ExamplesCopyingMissing.{copy_missing as proved}
use Rattle.lf_coverage.proofs.copy_entry_is_missing.Goals as goal

pub returns : goal.returns
returns c = proved
