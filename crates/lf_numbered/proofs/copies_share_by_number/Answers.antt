use Rattle.lf_numbered.proofs.MeetsAnswersExamples.{one_copy_is_refuted, open_copies_share, two_copies_share}
use Rattle.lf_numbered.proofs.copies_share_by_number.Goals as goal

pub returns-clause-open : goal.returns-clause-open
returns-clause-open c = open_copies_share

pub returns-clause-two : goal.returns-clause-two
returns-clause-two c = two_copies_share

pub returns-clause-refuted : goal.returns-clause-refuted
returns-clause-refuted c = one_copy_is_refuted
