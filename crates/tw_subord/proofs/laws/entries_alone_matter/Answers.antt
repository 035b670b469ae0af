use Rattle.tw_subord.proofs.Strengthened.{entries_alone}
use Rattle.tw_subord.proofs.laws.entries_alone_matter.Goals as goal

pub returns : goal.returns
returns c = entries_alone
