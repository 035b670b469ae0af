use Rattle.lf_numbered.proofs.MeetsReadyRuns.{apart_store_is_ready, one_block_input_is_apart_tuple, refuted_input_is_apart_tuple}
use Rattle.lf_numbered.proofs.apart_store_is_ready.Goals as goal

pub returns-clause-ready : goal.returns-clause-ready
returns-clause-ready c = apart_store_is_ready

pub returns-clause-refuted : goal.returns-clause-refuted
returns-clause-refuted c = refuted_input_is_apart_tuple

pub returns-clause-one : goal.returns-clause-one
returns-clause-one c = one_block_input_is_apart_tuple
