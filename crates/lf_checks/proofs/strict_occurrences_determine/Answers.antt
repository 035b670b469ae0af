use Rattle.lf_checks.proofs.Determined.{determined}
use Rattle.lf_checks.proofs.strict_occurrences_determine.Goals as goal

pub returns : goal.returns
returns c = determined
