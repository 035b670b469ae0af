use Rattle.lf_numbered.proofs.NumberedNeedsRows.{asked_has_needs, open_has_needs}
use Rattle.lf_numbered.proofs.entries_have_needs.Goals as goal

pub returns-clause-open : goal.returns-clause-open
returns-clause-open c = open_has_needs

pub returns-clause-asked : goal.returns-clause-asked
returns-clause-asked c = asked_has_needs
