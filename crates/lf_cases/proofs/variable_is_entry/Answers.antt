use Rattle.lf_cases.proofs.Heads.{entry_known}
use Rattle.lf_cases.proofs.variable_is_entry.Goals as goal

pub returns : goal.returns
returns c = entry_known
