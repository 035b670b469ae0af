use Rattle.lf_totality.proofs.Copying.{block_case_covered}
use Rattle.lf_totality.proofs.block_case_is_covered.Goals as goal

pub returns : goal.returns
returns c = block_case_covered
