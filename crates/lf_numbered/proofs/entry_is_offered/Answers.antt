use Rattle.lf_numbered.proofs.OwnStoresExamples.{entry_is_offered, own_entry_is_split, store_is_on_own_terms, case_is_read_off}
use Rattle.lf_numbered.proofs.entry_is_offered.Goals as goal

pub returns-clause-offered : goal.returns-clause-offered
returns-clause-offered c = entry_is_offered

pub returns-clause-store : goal.returns-clause-store
returns-clause-store c = store_is_on_own_terms

pub returns-clause-read : goal.returns-clause-read
returns-clause-read c = case_is_read_off

pub returns-clause-split : goal.returns-clause-split
returns-clause-split c = own_entry_is_split
