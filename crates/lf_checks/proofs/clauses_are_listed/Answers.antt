use Rattle.lf_checks.proofs.Listed.{listed}
use Rattle.lf_checks.proofs.clauses_are_listed.Goals as goal

pub returns : goal.returns
returns c = listed
