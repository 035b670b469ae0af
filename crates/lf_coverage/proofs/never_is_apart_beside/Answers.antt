use Rattle.lf_coverage.proofs.TypedCases.{never_is_apart_beside}
use Rattle.lf_coverage.proofs.never_is_apart_beside.Goals as goal

pub returns : goal.returns
returns c = never_is_apart_beside
