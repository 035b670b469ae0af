use Rattle.tw_parse_checks.proofs.Once.{one_check}
use Rattle.tw_parse_checks.proofs.laws.one_check.Goals as goal

pub returns : goal.returns
returns c = one_check
