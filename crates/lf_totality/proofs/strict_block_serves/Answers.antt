use Rattle.lf_totality.proofs.ExamplesGroups.{strict_serves}
use Rattle.lf_totality.proofs.strict_block_serves.Goals as goal

pub returns : goal.returns
returns c = strict_serves
