use Rattle.lf_coverage.proofs.ExamplesOutputs.{plus_output_run_covers, copy_output_run_stays_typed}
use Rattle.lf_coverage.proofs.answered_outputs_are_covered.Goals as goal

pub returns-clause-plus : goal.returns-clause-plus
returns-clause-plus c = plus_output_run_covers

pub returns-clause-copying : goal.returns-clause-copying
returns-clause-copying c = copy_output_run_stays_typed
