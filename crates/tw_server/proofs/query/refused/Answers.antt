use Rattle.tw_server.proofs.Rounded.{query_refused, query_unkept}
use Rattle.tw_server.proofs.query.refused.Goals as goal

pub returns-in-Ok : goal.returns-in-Ok
returns-in-Ok c v text short cause = query_refused v text c.args.refusal.now c.in-Ok.line short cause c.in-Ok.ensures

pub returns-in-Err : goal.returns-in-Err
returns-in-Err c v text short cause = query_unkept v text c.out_of_memory.result c.out_of_memory.ensures.reply c.out_of_memory.ensures.next
