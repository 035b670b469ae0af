use Rattle.std.proofs.Common.{◌∙◌}
use Rattle.tw_server.proofs.Rounded.{gathered_all, gathered_long, query_long, query_same, query_unkept}
use Rattle.tw_server.proofs.query.answer_query.Goals as goal

pub returns-in-NoMemory : goal.returns-in-NoMemory
returns-in-NoMemory c bytes g = query_unkept c.args.session.now bytes c.out_of_memory.result c.out_of_memory.ensures.reply c.out_of_memory.ensures.next

pub returns-in-TooLong : goal.returns-in-TooLong
returns-in-TooLong c bytes g = query_long c.args.session.now bytes (gathered_long c.args.text.now.lost c.args.text.now.bytes.items bytes c.in-TooLong.is g)

pub returns-in-Nothing : goal.returns-in-Nothing
returns-in-Nothing c bytes g =
    query_same c.args.session.now c.deref.result.now bytes c.answer_kept.result (c.deref.ensures.value ∙ gathered_all c.args.text.now.lost c.args.text.now.bytes.items bytes c.in-Nothing.is g) c.answer_kept.ensures
