use Rattle.lf_checks.proofs.ModeRefuted.{moded_parts}
use Rattle.lf_checks.proofs.moded_by_subgoals.Goals as goal

pub returns : goal.returns
returns c = moded_parts
