use Rattle.tw_resolve.proofs.Declared.{found_are_declared}
use Rattle.tw_resolve.proofs.laws.found_are_declared.Goals as goal

pub returns : goal.returns
returns c = found_are_declared
