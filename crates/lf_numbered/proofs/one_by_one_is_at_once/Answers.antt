use Rattle.lf_numbered.proofs.EntryTypesPut.{entry_type_is_put, given_is_put, one_by_one_is_at_once, placed_type_is_put, substitution_is_put, terms_are_put}
use Rattle.lf_numbered.proofs.one_by_one_is_at_once.Goals as goal

pub returns-clause-at_once : goal.returns-clause-at_once
returns-clause-at_once c = one_by_one_is_at_once

pub returns-clause-all : goal.returns-clause-all
returns-clause-all c = substitution_is_put

pub returns-clause-given : goal.returns-clause-given
returns-clause-given c = given_is_put

pub returns-clause-entries : goal.returns-clause-entries
returns-clause-entries c = entry_type_is_put

pub returns-clause-placed : goal.returns-clause-placed
returns-clause-placed c = placed_type_is_put

pub returns-clause-worked : goal.returns-clause-worked
returns-clause-worked c = terms_are_put
