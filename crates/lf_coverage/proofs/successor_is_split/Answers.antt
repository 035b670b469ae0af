use Rattle.lf_coverage.proofs.ExamplesUnified.{successor_is_split}
use Rattle.lf_coverage.proofs.successor_is_split.Goals as goal

pub returns : goal.returns
returns c = successor_is_split
