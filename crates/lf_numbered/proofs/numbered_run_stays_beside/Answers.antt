use Rattle.lf_numbered.proofs.NumberedBesideStays.{numbered_run_stays_beside, numbered_output_run_stays_beside}
use Rattle.lf_numbered.proofs.numbered_run_stays_beside.Goals as goal

pub returns-clause-run : goal.returns-clause-run
returns-clause-run c = numbered_run_stays_beside

pub returns-clause-outputs : goal.returns-clause-outputs
returns-clause-outputs c = numbered_output_run_stays_beside
