use Rattle.tw_server.proofs.Pieces.{front_first, reply_second}
use Rattle.tw_server.proofs.write.write_both.Goals as goal

pub returns-in-Ok-clause-bytes : goal.returns-in-Ok-clause-bytes
returns-in-Ok-clause-bytes g c = reply_second _ _ _ c.args.first.now c.args.second.now c.write_all-in-Ok.result c.in-Ok.ensures.bytes c.write_all-in-Ok.ensures.bytes

pub returns-in-Err-clause-bytes : goal.returns-in-Err-clause-bytes
returns-in-Err-clause-bytes g c = front_first _ _ c.args.first.now c.args.second.now c.in-Err.ensures.bytes
