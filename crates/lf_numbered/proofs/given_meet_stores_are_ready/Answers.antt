use Rattle.lf_numbered.proofs.MeetsReadyGivenMeets.{identified_stays_at_place, given_case_is_at_place, given_meet_store_is_ready}
use Rattle.lf_numbered.proofs.MeetsReadyOutputs.{output_run_meet_store_is_ready}
use Rattle.lf_numbered.proofs.given_meet_stores_are_ready.Goals as goal

pub returns-clause-identified : goal.returns-clause-identified
returns-clause-identified c = identified_stays_at_place

pub returns-clause-place : goal.returns-clause-place
returns-clause-place c = given_case_is_at_place

pub returns-clause-ready : goal.returns-clause-ready
returns-clause-ready c = given_meet_store_is_ready

pub returns-clause-runs : goal.returns-clause-runs
returns-clause-runs c = output_run_meet_store_is_ready
