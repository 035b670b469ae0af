use Rattle.lf_totality.proofs.Checks.{checks_conclude}
use Rattle.lf_totality.proofs.checks_conclude.Goals as goal

pub returns : goal.returns
returns c = checks_conclude
