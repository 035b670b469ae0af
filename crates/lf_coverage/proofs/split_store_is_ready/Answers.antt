use Rattle.lf_coverage.proofs.TypedCases.{split_store_is_ready}
use Rattle.lf_coverage.proofs.split_store_is_ready.Goals as goal

pub returns : goal.returns
returns c = split_store_is_ready
