use Rattle.lf_numbered.proofs.OwnStoresNewBlock.{new_block_stays_typed}
use Rattle.lf_numbered.proofs.OwnStoresSplit.{numbered_split_stays_typed}
use Rattle.lf_numbered.proofs.OwnStoresTyped.{numbered_run_stays_typed}
use Rattle.lf_numbered.proofs.numbered_split_stays_typed.Goals as goal

pub returns-clause-split : goal.returns-clause-split
returns-clause-split c = numbered_split_stays_typed

pub returns-clause-block : goal.returns-clause-block
returns-clause-block c = new_block_stays_typed

pub returns-clause-run : goal.returns-clause-run
returns-clause-run c = numbered_run_stays_typed
