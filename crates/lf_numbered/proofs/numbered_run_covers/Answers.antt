use Rattle.lf_numbered.proofs.EntryPatternsForms.{numbered_run_covers as proved}
use Rattle.lf_numbered.proofs.numbered_run_covers.Goals as goal

pub returns : goal.returns
returns c = proved
