use Rattle.tw_clause.proofs.Entries.{parts_of_type}
use Rattle.tw_clause.proofs.laws.parts_are_of_type.Goals as goal

pub returns : goal.returns
returns c = parts_of_type
