use Rattle.lf_totality.proofs.ExamplesSplits.{linear_stand}
use Rattle.lf_totality.proofs.linear_clauses_stand.Goals as goal

pub returns : goal.returns
returns c = linear_stand
