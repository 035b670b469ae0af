use Rattle.lf_checks.specs.Worlded.{BlocksServe}
use Rattle.lf_checks.specs.WorldFaults.{worlds_of as worlds_of_family}
use Rattle.tw_clause.specs.Tables.{world_rows_of}
use Rattle.tw_clause.specs.View.{worlds_of}
use Rattle.tw_world.specs.Serving.{below_in}
use Rattle.tw_world.proofs.Served.{served}
use Rattle.tw_world.proofs.serving.is_served.Goals as goal

pub returns-in-Some : goal.returns-in-Some
returns-in-Some c = served (worlds_of_family (world_rows_of c.args.rows.now) c.args.family.0) (worlds_of c.in-Some.known.now) (λ V. BlocksServe (worlds_of c.args.worlds.now) V (below_in c.args.subord.now c.args.family.0)) c.is_among.result c.blocks_serve.result c.if-is_among.false c.is_among.ensures c.in-Some.ensures c.blocks_serve.ensures
