use Rattle.lf_numbered.proofs.MeetsTupleExamples.{copies_are_applied, copies_are_refuted, copies_share_tuple}
use Rattle.lf_numbered.proofs.NumberedAnswersExamples.{copies_have_no_applied}
use Rattle.lf_numbered.proofs.copies_have_no_applied.Goals as goal

pub returns-clause-stores : goal.returns-clause-stores
returns-clause-stores c = copies_are_applied

pub returns-clause-refuted : goal.returns-clause-refuted
returns-clause-refuted c = copies_are_refuted

pub returns-clause-none : goal.returns-clause-none
returns-clause-none c = copies_have_no_applied

pub returns-clause-shared : goal.returns-clause-shared
returns-clause-shared c = copies_share_tuple
