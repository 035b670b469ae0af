use Rattle.lf_totality.proofs.ExamplesReached.{entry_output_goal}
use Rattle.lf_totality.proofs.entry_output_goal.Goals as goal

pub returns : goal.returns
returns c = entry_output_goal
