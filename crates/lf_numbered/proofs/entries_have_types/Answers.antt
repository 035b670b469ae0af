use Rattle.lf_numbered.proofs.ExamplesEntries.{copy_entries_have_types, some_entries_have_types, later_entry_has_type}
use Rattle.lf_numbered.proofs.entries_have_types.Goals as goal

pub returns-clause-copy : goal.returns-clause-copy
returns-clause-copy c = copy_entries_have_types

pub returns-clause-some : goal.returns-clause-some
returns-clause-some c = some_entries_have_types

pub returns-clause-later : goal.returns-clause-later
returns-clause-later c = later_entry_has_type
