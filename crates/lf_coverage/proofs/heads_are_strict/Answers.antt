use Rattle.lf_coverage.proofs.StrictHeads.{heads_are_strict}
use Rattle.lf_coverage.proofs.heads_are_strict.Goals as goal

pub returns : goal.returns
returns c = heads_are_strict
