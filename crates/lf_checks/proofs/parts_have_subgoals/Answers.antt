use Rattle.lf_checks.proofs.Numbered.{part_found}
use Rattle.lf_checks.proofs.parts_have_subgoals.Goals as goal

pub returns : goal.returns
returns c = part_found
