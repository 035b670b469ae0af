use Rattle.lf_numbered.proofs.MeetsReadyInputs.{typed_places_are_beside, input_meet_store_is_ready}
use Rattle.lf_numbered.proofs.MeetsReadyRuns.{input_run_has_typed_places, input_run_meet_store_is_ready}
use Rattle.lf_numbered.proofs.input_meet_stores_are_ready.Goals as goal

pub returns-clause-beside : goal.returns-clause-beside
returns-clause-beside c = typed_places_are_beside

pub returns-clause-ready : goal.returns-clause-ready
returns-clause-ready c = input_meet_store_is_ready

pub returns-clause-runs : goal.returns-clause-runs
returns-clause-runs c = input_run_meet_store_is_ready

pub returns-clause-places : goal.returns-clause-places
returns-clause-places c = input_run_has_typed_places
