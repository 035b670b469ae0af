use Rattle.lf_coverage.proofs.ExamplesUnified.{successor_none as proved}
use Rattle.lf_coverage.proofs.successor_gives_none.Goals as goal

pub returns : goal.returns
returns c = proved
