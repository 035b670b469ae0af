use Rattle.lf_numbered.proofs.NumberedCallsGoals.{numbered_candidate_is_free}
use Rattle.lf_numbered.proofs.NumberedCallsLaws.{answered_by_number_is_split_answer}
use Rattle.lf_numbered.proofs.split_by_number.Goals as goal

pub returns-clause-answer : goal.returns-clause-answer
returns-clause-answer c = answered_by_number_is_split_answer

pub returns-clause-candidate : goal.returns-clause-candidate
returns-clause-candidate c = numbered_candidate_is_free
