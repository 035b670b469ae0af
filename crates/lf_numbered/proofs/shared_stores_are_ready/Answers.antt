use Rattle.lf_numbered.proofs.MeetsReadyShared.{shared_input_store_is_ready, shared_given_store_is_ready}
use Rattle.lf_numbered.proofs.shared_stores_are_ready.Goals as goal

pub returns-clause-inputs : goal.returns-clause-inputs
returns-clause-inputs c = shared_input_store_is_ready

pub returns-clause-given : goal.returns-clause-given
returns-clause-given c = shared_given_store_is_ready
