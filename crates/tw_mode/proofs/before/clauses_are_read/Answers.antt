use Rattle.tw_mode.proofs.Read.{clauses_read}
use Rattle.tw_mode.proofs.before.clauses_are_read.Goals as goal

pub returns : goal.returns
returns c = clauses_read
