use Rattle.lf_totality.proofs.ExamplesFull.{full_clauses}
use Rattle.lf_totality.proofs.full_clauses.Goals as goal

pub returns : goal.returns
returns c = full_clauses
