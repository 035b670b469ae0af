use Rattle.lf_numbered.proofs.EntryPatternsDecided.{numbered_head_matching_decides as proved}
use Rattle.lf_numbered.proofs.numbered_head_matching_decides.Goals as goal

pub returns : goal.returns
returns c = proved
