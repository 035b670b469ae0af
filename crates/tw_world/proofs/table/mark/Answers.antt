use Rattle.tw_world.proofs.Tables.{said_after}
use Rattle.tw_world.proofs.table.mark.Goals as goal

pub returns-clause-marked : goal.returns-clause-marked
returns-clause-marked c = λ k. said_after c.args.table.now.items c.args.place k c.requires
