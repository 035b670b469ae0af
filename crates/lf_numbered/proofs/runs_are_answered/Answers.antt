use Rattle.lf_numbered.proofs.MeetsAnswersRuns.{each_place_is_answered, input_run_fits, beside_fits}
use Rattle.lf_numbered.proofs.NumberedAnswersRuns.{beside_run_has_needs, beside_run_is_answered, input_run_has_needs, input_run_is_answered}
use Rattle.lf_numbered.proofs.runs_are_answered.Goals as goal

pub returns-clause-each : goal.returns-clause-each
returns-clause-each c = each_place_is_answered

pub returns-clause-inputs_fit : goal.returns-clause-inputs_fit
returns-clause-inputs_fit c = input_run_fits

pub returns-clause-beside_fits : goal.returns-clause-beside_fits
returns-clause-beside_fits c = beside_fits

pub returns-clause-inputs_need : goal.returns-clause-inputs_need
returns-clause-inputs_need c = input_run_has_needs

pub returns-clause-beside_needs : goal.returns-clause-beside_needs
returns-clause-beside_needs c = beside_run_has_needs

pub returns-clause-inputs : goal.returns-clause-inputs
returns-clause-inputs c = input_run_is_answered

pub returns-clause-outputs : goal.returns-clause-outputs
returns-clause-outputs c = beside_run_is_answered
