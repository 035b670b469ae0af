use Rattle.lf_coverage.proofs.StrictPatterns.{strict_is_pattern}
use Rattle.lf_coverage.proofs.strict_is_pattern.Goals as goal

pub returns : goal.returns
returns c = strict_is_pattern
