use Rattle.lf_coverage.proofs.RunTyped.{empty_world_has_no_block}
use Rattle.lf_coverage.proofs.empty_world_has_no_block.Goals as goal

pub returns : goal.returns
returns c = empty_world_has_no_block
