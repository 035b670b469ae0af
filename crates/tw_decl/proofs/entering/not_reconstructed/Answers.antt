use Rattle.tw_decl.proofs.Causes.{left_refused}
use Rattle.tw_decl.proofs.entering.not_reconstructed.Goals as goal

pub returns-in-Leftover : goal.returns-in-Leftover
returns-in-Leftover c = left_refused c.args.session.now c.args.first c.args.fault c.in-Leftover.left c.leftover.result c.in-Leftover.is c.leftover.ensures
