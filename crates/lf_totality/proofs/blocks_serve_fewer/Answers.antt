use Rattle.lf_totality.proofs.Fewer.{serve_fewer}
use Rattle.lf_totality.proofs.blocks_serve_fewer.Goals as goal

pub returns : goal.returns
returns c = serve_fewer
