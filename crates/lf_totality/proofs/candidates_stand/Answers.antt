use Rattle.lf_totality.proofs.ExamplesReached.{candidates_stand}
use Rattle.lf_totality.proofs.candidates_stand.Goals as goal

pub returns : goal.returns
returns c = candidates_stand
