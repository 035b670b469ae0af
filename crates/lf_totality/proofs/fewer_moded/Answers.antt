use Rattle.lf_totality.proofs.Fewer.{fewer_moded}
use Rattle.lf_totality.proofs.fewer_moded.Goals as goal

pub returns : goal.returns
returns c = fewer_moded
