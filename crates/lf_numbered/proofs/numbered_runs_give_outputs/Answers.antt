use Rattle.lf_numbered.proofs.EntryPatternsOutputs.{numbered_runs_give_outputs as proved}
use Rattle.lf_numbered.proofs.numbered_runs_give_outputs.Goals as goal

pub returns : goal.returns
returns c = proved
