use Rattle.lf_numbered.proofs.HeadsOverEntries.{heads_are_over_entries as proved}
use Rattle.lf_numbered.proofs.heads_are_over_entries.Goals as goal

pub returns : goal.returns
returns c = proved
