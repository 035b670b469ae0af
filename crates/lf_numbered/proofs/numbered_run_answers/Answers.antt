use Rattle.lf_numbered.proofs.EntryPatternsOutputs.{numbered_run_answers as proved}
use Rattle.lf_numbered.proofs.numbered_run_answers.Goals as goal

pub returns : goal.returns
returns c = proved
