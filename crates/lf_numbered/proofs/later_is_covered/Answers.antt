use Rattle.lf_numbered.proofs.EntryPatternsGoals.{later_is_covered as proved}
use Rattle.lf_numbered.proofs.later_is_covered.Goals as goal

pub returns : goal.returns
returns c = proved
