use Rattle.lf_numbered.proofs.EntryPatternsCopying.{copy_run_by_number as proved}
use Rattle.lf_numbered.proofs.copy_run_by_number.Goals as goal

pub returns : goal.returns
returns c = proved
