use Rattle.std.proofs.Common.{refl}
use Rattle.tw_server.proofs.load.close.Goals as goal

pub returns-in-Ok-clause-lines : goal.returns-in-Ok-clause-lines
returns-in-Ok-clause-lines g c = (refl, c.in-Ok.ensures.bytes)
