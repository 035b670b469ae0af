use Rattle.tw_total.proofs.Passing.{answers_pass}
use Rattle.tw_total.proofs.laws.answers_pass.Goals as goal

pub returns : goal.returns
returns c = answers_pass
