use Rattle.lf_numbered.proofs.NumberedTuples.{tuple_is_unifier, refuted_holds_no_tuple}
use Rattle.lf_numbered.proofs.NumberedTuplesRoom.{refuted_is_apart_tuple, one_block_is_apart_tuple}
use Rattle.lf_numbered.proofs.tuple_is_unifier.Goals as goal

pub returns-clause-unifier : goal.returns-clause-unifier
returns-clause-unifier c = tuple_is_unifier

pub returns-clause-refuted : goal.returns-clause-refuted
returns-clause-refuted c = refuted_holds_no_tuple

pub returns-clause-apart : goal.returns-clause-apart
returns-clause-apart c = refuted_is_apart_tuple

pub returns-clause-one : goal.returns-clause-one
returns-clause-one c = one_block_is_apart_tuple
