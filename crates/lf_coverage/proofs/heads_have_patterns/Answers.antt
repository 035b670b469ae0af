use Rattle.lf_coverage.proofs.ExamplesHeadPatterns.{heads_have_patterns}
use Rattle.lf_coverage.proofs.heads_have_patterns.Goals as goal

pub returns : goal.returns
returns c = heads_have_patterns
