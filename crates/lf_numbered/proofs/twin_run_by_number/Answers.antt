use Rattle.lf_numbered.proofs.EntryPatternsTwins.{twin_run_by_number as proved}
use Rattle.lf_numbered.proofs.twin_run_by_number.Goals as goal

pub returns : goal.returns
returns c = proved
