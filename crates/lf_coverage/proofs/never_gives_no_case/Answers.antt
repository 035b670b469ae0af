use Rattle.lf_coverage.proofs.NoCase.{never_gives_no_case}
use Rattle.lf_coverage.proofs.never_gives_no_case.Goals as goal

pub returns : goal.returns
returns c = never_gives_no_case
