use Rattle.lf_numbered.proofs.MeetsTupleAll.{constants_tuple_meets, refuted_constant_has_no_tuple}
use Rattle.lf_numbered.proofs.identified_tuple_meets.Goals as goal

pub returns-clause-constants : goal.returns-clause-constants
returns-clause-constants c = constants_tuple_meets

pub returns-clause-refuted : goal.returns-clause-refuted
returns-clause-refuted c = refuted_constant_has_no_tuple
