use Rattle.lf_numbered.proofs.OwnStoresStart.{numbered_store_has_skeletons, numbered_store_is_ready}
use Rattle.lf_numbered.proofs.numbered_store_is_ready.Goals as goal

pub returns-clause-form : goal.returns-clause-form
returns-clause-form c = numbered_store_is_ready

pub returns-clause-skeletons : goal.returns-clause-skeletons
returns-clause-skeletons c = numbered_store_has_skeletons
