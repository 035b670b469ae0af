use Rattle.lf_numbered.proofs.EntrySignature.{old_typings_stay, earlier_entries_stay}
use Rattle.lf_numbered.proofs.old_typings_stay.Goals as goal

pub returns-clause-old : goal.returns-clause-old
returns-clause-old c = old_typings_stay

pub returns-clause-earlier : goal.returns-clause-earlier
returns-clause-earlier c = earlier_entries_stay
