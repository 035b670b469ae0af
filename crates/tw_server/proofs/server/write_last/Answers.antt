use Rattle.std.proofs.Common.{ℕ, List, subst}
use Rattle.tw_server.specs.Written.{GainsReply}
use Rattle.tw_server.specs.Playing.{last_of}
use Rattle.tw_server.specs.Replies.{reply_bytes}
use Rattle.tw_server.proofs.Pieces.{front_first, reply_second}
use Rattle.tw_server.proofs.server.write_last.Goals as goal

pub returns-in-Ok-clause-bytes : goal.returns-in-Ok-clause-bytes
returns-in-Ok-clause-bytes g c =
    let more = subst (λ (x : List ℕ). GainsReply (g.K.Sink.written c.write_reply.new.sink) (g.K.Sink.written c.write_reply-in-Ok.new.sink) x c.write_reply-in-Ok.result) c.last_reply.ensures c.write_reply-in-Ok.ensures.bytes in
    reply_second _ _ _ (reply_bytes c.args.reply.now) (last_of c.args.next.now) c.write_reply-in-Ok.result c.in-Ok.ensures.bytes more

pub returns-in-Err-clause-bytes : goal.returns-in-Err-clause-bytes
returns-in-Err-clause-bytes g c = front_first _ _ (reply_bytes c.args.reply.now) (last_of c.args.next.now) c.in-Err.ensures.bytes
