use Rattle.std.proofs.Common.{List, ℕ, ◌++◌, codes, subst}
use Rattle.tw_server.specs.Replies.{refused}
use Rattle.tw_server.specs.Written.{GainsFront, GainsReply}
use Rattle.tw_server.proofs.Pieces.{append_three, front_first, reply_second}
use Rattle.tw_server.proofs.show.refuse.Goals as goal

pub returns-in-Ok-clause-bytes : goal.returns-in-Ok-clause-bytes
returns-in-Ok-clause-bytes g c =
    subst (λ (l : List ℕ). GainsReply (g.K.Sink.written c.args.sink.now) (g.K.Sink.written c.write_both.new.sink) l c.write_both.result) (append_three c.args.words.now c.args.name.now (codes "\n") refused)
    (reply_second _ _ _ c.args.words.now (c.args.name.now ++ (codes "\n" ++ refused)) c.write_both.result c.in-Ok.ensures.bytes c.write_both.ensures.bytes)

pub returns-in-Err-clause-bytes : goal.returns-in-Err-clause-bytes
returns-in-Err-clause-bytes g c =
    subst (λ (l : List ℕ). GainsFront (g.K.Sink.written c.args.sink.now) (g.K.Sink.written c.write_all.new.sink) l) (append_three c.args.words.now c.args.name.now (codes "\n") refused)
    (front_first _ _ c.args.words.now (c.args.name.now ++ (codes "\n" ++ refused)) c.in-Err.ensures.bytes)
