use Rattle.std.proofs.Common.{vec_len}
use Rattle.tw_print.proofs.Dues.{popped}
use Rattle.tw_print.proofs.due.pop.Goals as goal

pub returns : goal.returns
returns c = popped c.args.due.now.items c.pop.new.self.items (vec_len c.args.due.now) (vec_len c.pop.new.self) c.pop.result c.pop.ensures.items c.pop.ensures.cases c.pop.ensures.rest
