use Rattle.std.proofs.Common.{refl}
use Rattle.tw_server.proofs.Rounded.{after_deep, after_more, after_over, goes_nowhere}
use Rattle.tw_server.proofs.query.behind_round.Goals as goal

pub returns-in-More : goal.returns-in-More
returns-in-More c v s h = after_more v s c.args.waiting c.args.round h c.args.round.text refl c.in-More.is

pub returns-in-Over : goal.returns-in-Over
returns-in-Over c v s h = after_over v s c.args.waiting c.args.round h c.args.round.text refl c.in-Over.is

pub returns-in-Ok : goal.returns-in-Ok
returns-in-Ok c v s h = after_deep v s c.args.waiting c.args.round h c.add_too_deep.new.text c.in-Ok.ensures c.in-TooDeep.is

pub returns : goal.returns
returns c v s h = goes_nowhere v _ _ s c.out_of_memory.result c.out_of_memory.ensures.reply c.out_of_memory.ensures.next
