use Rattle.lf_numbered.proofs.EntryTermsRuns.{input_run_is_decided, beside_run_is_decided}
use Rattle.lf_numbered.proofs.numbered_run_is_decided.Goals as goal

pub returns-clause-inputs : goal.returns-clause-inputs
returns-clause-inputs c = input_run_is_decided

pub returns-clause-outputs : goal.returns-clause-outputs
returns-clause-outputs c = beside_run_is_decided
