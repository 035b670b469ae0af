use Rattle.lf_coverage.proofs.ExamplesTyped.{odd_case_is_untyped}
use Rattle.lf_coverage.proofs.odd_case_is_untyped.Goals as goal

pub returns : goal.returns
returns c = odd_case_is_untyped
