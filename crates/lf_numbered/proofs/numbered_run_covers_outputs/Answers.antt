use Rattle.lf_numbered.proofs.EntryPatternsOutputs.{numbered_run_covers_outputs as proved}
use Rattle.lf_numbered.proofs.numbered_run_covers_outputs.Goals as goal

pub returns : goal.returns
returns c = proved
