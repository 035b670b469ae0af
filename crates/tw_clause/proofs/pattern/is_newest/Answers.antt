use Rattle.std.proofs.Common.{arith}
use Rattle.std.proofs.lemmas.Bool.Decides.{nat_tests}
use Rattle.tw_clause.proofs.Patterns.{newest_in, newest_out}
use Rattle.tw_clause.proofs.pattern.is_newest.Goals as goal

pub returns : goal.returns
returns c = grind (arith, nat_tests, newest_in, newest_out)
