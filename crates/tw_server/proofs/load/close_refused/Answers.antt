use Rattle.std.proofs.Common.{inr, refl}
use Rattle.tw_server.specs.Replies.{no_memory}
use Rattle.tw_server.proofs.load.close_refused.Goals as goal

pub returns-in-Err-clause-lines : goal.returns-in-Err-clause-lines
returns-in-Err-clause-lines g c = (no_memory, inr refl, c.close-in-Err.ensures.lines)
