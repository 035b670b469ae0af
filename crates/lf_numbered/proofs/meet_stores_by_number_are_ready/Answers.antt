use Rattle.lf_numbered.proofs.MeetsReadyMeets.{meet_store_by_number_is_ready}
use Rattle.lf_numbered.proofs.MeetsReadyStores.{placed_store_is_ready}
use Rattle.lf_numbered.proofs.meet_stores_by_number_are_ready.Goals as goal

pub returns-clause-placed : goal.returns-clause-placed
returns-clause-placed c = placed_store_is_ready

pub returns-clause-by_number : goal.returns-clause-by_number
returns-clause-by_number c = meet_store_by_number_is_ready
