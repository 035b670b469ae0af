use Rattle.lf_numbered.proofs.MeetsTupleAll.{entries_tuple_meets, tuple_meets, refuted_has_no_tuple, refuted_is_apart}
use Rattle.lf_numbered.proofs.tuple_meets.Goals as goal

pub returns-clause-entries : goal.returns-clause-entries
returns-clause-entries c = entries_tuple_meets

pub returns-clause-given : goal.returns-clause-given
returns-clause-given c = tuple_meets

pub returns-clause-refuted : goal.returns-clause-refuted
returns-clause-refuted c = refuted_has_no_tuple

pub returns-clause-apart : goal.returns-clause-apart
returns-clause-apart c = refuted_is_apart
