use Rattle.lf_numbered.proofs.EntryPatternsForms.{numbered_run_covers_case as proved}
use Rattle.lf_numbered.proofs.numbered_run_covers_case.Goals as goal

pub returns : goal.returns
returns c = proved
