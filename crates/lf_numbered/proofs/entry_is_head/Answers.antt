use Rattle.lf_numbered.proofs.ExamplesInstances.{entry_is_head, second_is_apart, binding_moves_own_terms}
use Rattle.lf_numbered.proofs.entry_is_head.Goals as goal

pub returns-clause-head : goal.returns-clause-head
returns-clause-head c = entry_is_head

pub returns-clause-apart : goal.returns-clause-apart
returns-clause-apart c = second_is_apart

pub returns-clause-moved : goal.returns-clause-moved
returns-clause-moved c = binding_moves_own_terms
