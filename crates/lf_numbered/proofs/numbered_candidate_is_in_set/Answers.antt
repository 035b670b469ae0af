use Rattle.lf_numbered.proofs.NumberedCandidates.{numbered_candidate_is_in_set, numbered_candidate_takes_below}
use Rattle.lf_numbered.proofs.numbered_candidate_is_in_set.Goals as goal

pub returns-clause-families : goal.returns-clause-families
returns-clause-families c = numbered_candidate_is_in_set

pub returns-clause-below : goal.returns-clause-below
returns-clause-below c = numbered_candidate_takes_below
