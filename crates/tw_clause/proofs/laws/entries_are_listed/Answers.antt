use Rattle.tw_clause.proofs.Entries.{entry_listed}
use Rattle.tw_clause.proofs.laws.entries_are_listed.Goals as goal

pub returns : goal.returns
returns c = entry_listed
