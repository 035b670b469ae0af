use Rattle.lf_numbered.proofs.WorkedCallsStuck.{applied_is_stuck, no_places_are_stuck, some_variable_gives_no_candidate}
use Rattle.lf_numbered.proofs.WorkedCallsStuckEntries.{entry_determines_nothing, some_terms_determine_nothing}
use Rattle.lf_numbered.proofs.stuck_cases_are_unsplit.Goals as goal

pub returns-clause-applied : goal.returns-clause-applied
returns-clause-applied c = applied_is_stuck

pub returns-clause-candidate : goal.returns-clause-candidate
returns-clause-candidate c = some_variable_gives_no_candidate

pub returns-clause-places : goal.returns-clause-places
returns-clause-places c = no_places_are_stuck

pub returns-clause-entry : goal.returns-clause-entry
returns-clause-entry c = entry_determines_nothing

pub returns-clause-terms : goal.returns-clause-terms
returns-clause-terms c = some_terms_determine_nothing
