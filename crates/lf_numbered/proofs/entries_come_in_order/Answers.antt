use Rattle.lf_numbered.proofs.WorkedCallsOrder.{entry_is_offered_twice, new_entry_comes_first}
use Rattle.lf_numbered.proofs.entries_come_in_order.Goals as goal

pub returns-clause-first : goal.returns-clause-first
returns-clause-first c = new_entry_comes_first

pub returns-clause-twice : goal.returns-clause-twice
returns-clause-twice c = entry_is_offered_twice
