use Rattle.lf_coverage.proofs.AnsweredOutputs.{output_run_stays_typed, strict_run_stays_typed}
use Rattle.lf_coverage.proofs.output_run_stays_typed.Goals as goal

pub returns-clause-ground : goal.returns-clause-ground
returns-clause-ground c = output_run_stays_typed

pub returns-clause-moded : goal.returns-clause-moded
returns-clause-moded c = strict_run_stays_typed
