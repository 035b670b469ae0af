use Rattle.lf_numbered.proofs.NumberedHeads.{numbered_heads_are_all as proved}
use Rattle.lf_numbered.proofs.numbered_heads_are_all.Goals as goal

pub returns : goal.returns
returns c = proved
