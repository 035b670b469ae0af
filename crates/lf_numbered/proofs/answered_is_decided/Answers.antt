use Rattle.lf_numbered.proofs.EntryTermsRunsExamples.{answered_is_decided, pair_goal_is_decided}
use Rattle.lf_numbered.proofs.answered_is_decided.Goals as goal

pub returns-clause-outputs : goal.returns-clause-outputs
returns-clause-outputs c = answered_is_decided

pub returns-clause-inputs : goal.returns-clause-inputs
returns-clause-inputs c = pair_goal_is_decided
