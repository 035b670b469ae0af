use Rattle.lf_totality.proofs.Addition.{sums}
use Rattle.lf_totality.proofs.numbers_have_sums.Goals as goal

pub returns : goal.returns
returns c = sums
