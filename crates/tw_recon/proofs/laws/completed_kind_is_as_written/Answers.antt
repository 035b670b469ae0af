use Rattle.tw_recon.proofs.Families.{completed_kind}
use Rattle.tw_recon.proofs.laws.completed_kind_is_as_written.Goals as goal

pub returns : goal.returns
returns c = completed_kind
