use Rattle.lf_coverage.proofs.StuckRuns.{comes_as_instance}
use Rattle.lf_coverage.proofs.comes_as_instance.Goals as goal

pub returns : goal.returns
returns c = comes_as_instance
