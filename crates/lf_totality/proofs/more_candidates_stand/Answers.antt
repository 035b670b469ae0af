use Rattle.lf_totality.proofs.ExamplesReached.{more_candidates_stand}
use Rattle.lf_totality.proofs.more_candidates_stand.Goals as goal

pub returns : goal.returns
returns c = more_candidates_stand
