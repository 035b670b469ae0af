use Rattle.lf_totality.proofs.ExamplesMissing.{linear_clauses}
use Rattle.lf_totality.proofs.linear_clauses.Goals as goal

pub returns : goal.returns
returns c = linear_clauses
