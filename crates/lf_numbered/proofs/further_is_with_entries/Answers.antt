use Rattle.lf_numbered.proofs.EntryTypes.{further_is_with_entries, new_types_come_last, pairs_have_types, turned_has_types}
use Rattle.lf_numbered.proofs.further_is_with_entries.Goals as goal

pub returns-clause-entries : goal.returns-clause-entries
returns-clause-entries c = further_is_with_entries

pub returns-clause-new : goal.returns-clause-new
returns-clause-new c = new_types_come_last

pub returns-clause-turned : goal.returns-clause-turned
returns-clause-turned c = turned_has_types

pub returns-clause-pairs : goal.returns-clause-pairs
returns-clause-pairs c = pairs_have_types
