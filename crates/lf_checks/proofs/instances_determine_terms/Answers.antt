use Rattle.lf_checks.proofs.SomeValues.{some_terms}
use Rattle.lf_checks.proofs.instances_determine_terms.Goals as goal

pub returns : goal.returns
returns c = some_terms
