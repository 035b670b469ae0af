use Rattle.lf_numbered.proofs.EntryTypesWalk.{entry_is_walked, items_are_walked, numbered_is_walked, read_drops_first, walk_is_substitution}
use Rattle.lf_numbered.proofs.numbered_is_walked.Goals as goal

pub returns-clause-walk : goal.returns-clause-walk
returns-clause-walk c = walk_is_substitution

pub returns-clause-numbered : goal.returns-clause-numbered
returns-clause-numbered c = numbered_is_walked

pub returns-clause-entry : goal.returns-clause-entry
returns-clause-entry c = entry_is_walked

pub returns-clause-items : goal.returns-clause-items
returns-clause-items c = items_are_walked

pub returns-clause-read : goal.returns-clause-read
returns-clause-read c = read_drops_first
