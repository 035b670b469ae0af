use Rattle.lf_coverage.proofs.RunTyped.{reached_has_no_block}
use Rattle.lf_coverage.proofs.reached_has_no_block.Goals as goal

pub returns : goal.returns
returns c = reached_has_no_block
