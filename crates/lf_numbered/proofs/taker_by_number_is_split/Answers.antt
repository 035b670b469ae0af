use Rattle.lf_numbered.proofs.NumberedCandidatesSplits.{taker_by_number_is_split, unified_taker_is_answered}
use Rattle.lf_numbered.proofs.taker_by_number_is_split.Goals as goal

pub returns-clause-split : goal.returns-clause-split
returns-clause-split c = taker_by_number_is_split

pub returns-clause-answered : goal.returns-clause-answered
returns-clause-answered c = unified_taker_is_answered
