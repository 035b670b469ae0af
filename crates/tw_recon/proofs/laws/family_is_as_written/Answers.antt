use Rattle.tw_recon.proofs.Families.{family}
use Rattle.tw_recon.proofs.laws.family_is_as_written.Goals as goal

pub returns : goal.returns
returns c = family
