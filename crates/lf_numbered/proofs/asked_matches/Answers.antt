use Rattle.lf_numbered.proofs.EntryTermsExamplesGoal.{asked_matches, asked_is_instance}
use Rattle.lf_numbered.proofs.asked_matches.Goals as goal

pub returns-clause-matched : goal.returns-clause-matched
returns-clause-matched c = asked_matches

pub returns-clause-instance : goal.returns-clause-instance
returns-clause-instance c = asked_is_instance
