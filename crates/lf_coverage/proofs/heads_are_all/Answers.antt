use Rattle.lf_coverage.proofs.Examples.{heads_are_all as proved}
use Rattle.lf_coverage.proofs.heads_are_all.Goals as goal

pub returns : goal.returns
returns c = proved
