use Rattle.lf_checks.proofs.Numbered.{type_both}
use Rattle.lf_checks.proofs.types_are_found.Goals as goal

pub returns : goal.returns
returns c = type_both
