use Rattle.tw_signature.specs.Goal.{goal_of}
use Rattle.tw_top.specs.Rounds.{begun}
use Rattle.tw_server.proofs.Rounded.{goes_nowhere, holds_begun, went_on_begun}
use Rattle.tw_server.proofs.query.begin.Goals as goal

pub go_on-requires : goal.go_on-requires
go_on-requires c = holds_begun c.args.session.now.signature c.signature.result.now c.in-Ok.asking (goal_of c.args.goal) c.args.at c.signature.ensures c.in-Ok.ensures.holds c.in-Ok.ensures.goal

pub returns-in-Ok : goal.returns-in-Ok
returns-in-Ok c = went_on_begun c.args.session.now c.signature.result.now c.in-Ok.asking (goal_of c.args.goal) c.args.at c.go_on.result c.signature.ensures c.in-Ok.ensures.holds c.in-Ok.ensures.goal c.go_on.ensures

pub returns-in-Err : goal.returns-in-Err
returns-in-Err c = goes_nowhere c.args.session.now (goal_of c.args.goal) c.args.at (begun (goal_of c.args.goal)) c.out_of_memory.result c.out_of_memory.ensures.reply c.out_of_memory.ensures.next
