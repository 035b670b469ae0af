use Rattle.lf_totality.proofs.After.{record_with_facts}
use Rattle.lf_totality.proofs.group_with_facts_is_right.Goals as goal

pub returns : goal.returns
returns c = record_with_facts
