use Rattle.lf_numbered.proofs.EntryTermsBesideGiven.{beside_with_all_tried, beside_is_decided}
use Rattle.lf_numbered.proofs.beside_is_decided.Goals as goal

pub returns-clause-with_tried : goal.returns-clause-with_tried
returns-clause-with_tried c = beside_with_all_tried

pub returns-clause-decided : goal.returns-clause-decided
returns-clause-decided c = beside_is_decided
