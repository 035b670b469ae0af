use Rattle.lf_totality.proofs.Refusals.{free_exempt}
use Rattle.lf_totality.proofs.free_place_is_exempt.Goals as goal

pub returns : goal.returns
returns c = free_exempt
