use Rattle.lf_coverage.proofs.Unified.{unified_split}
use Rattle.lf_coverage.proofs.unified_split_is_head_split.Goals as goal

pub returns : goal.returns
returns c = unified_split
