use Rattle.lf_numbered.proofs.MetEquationsExamples.{copies_stand_at_one, applied_zero_solves_left}
use Rattle.lf_numbered.proofs.SharedTuplesExamples.{copies_share_ground, applied_zero_is_met}
use Rattle.lf_numbered.proofs.worked_tuples_are_shared.Goals as goal

pub returns-clause-copies : goal.returns-clause-copies
returns-clause-copies c = copies_share_ground

pub returns-clause-zeros : goal.returns-clause-zeros
returns-clause-zeros c = applied_zero_is_met

pub returns-clause-stands : goal.returns-clause-stands
returns-clause-stands c = copies_stand_at_one

pub returns-clause-left : goal.returns-clause-left
returns-clause-left c = applied_zero_solves_left
