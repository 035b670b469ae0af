use Rattle.lf_numbered.proofs.NumberedNeedsSplits.{listed_keep_needs, reached_has_needs, split_keeps_needs}
use Rattle.lf_numbered.proofs.splits_keep_needs.Goals as goal

pub returns-clause-split : goal.returns-clause-split
returns-clause-split c = split_keeps_needs

pub returns-clause-listed : goal.returns-clause-listed
returns-clause-listed c = listed_keep_needs

pub returns-clause-reached : goal.returns-clause-reached
returns-clause-reached c = reached_has_needs
