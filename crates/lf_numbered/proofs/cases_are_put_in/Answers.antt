use Rattle.lf_numbered.proofs.EntryPatternsRows.{cases_are_put_in as proved, entries_are_matched}
use Rattle.lf_numbered.proofs.cases_are_put_in.Goals as goal

pub returns-clause-values : goal.returns-clause-values
returns-clause-values c = proved

pub returns-clause-matched : goal.returns-clause-matched
returns-clause-matched c = entries_are_matched
