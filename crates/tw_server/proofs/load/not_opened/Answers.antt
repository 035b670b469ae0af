use Rattle.std.proofs.Common.{List, ℕ, ◌++◌, append_assoc, codes, false, subst, sym}
use Rattle.tw_server.specs.Written.{GainsFront, GainsLines}
use Rattle.tw_server.proofs.Pieces.{front_first, lines_second}
use Rattle.tw_server.proofs.load.not_opened.Goals as goal

pub returns-in-Ok-clause-lines : goal.returns-in-Ok-clause-lines
returns-in-Ok-clause-lines g c =
    subst (λ (l : List ℕ). GainsLines (g.K.Sink.written c.args.sink.now) (g.K.Sink.written c.close.new.sink) l false c.close.result) (sym (append_assoc c.args.words.now c.args.name.now (codes "\n")))
    (lines_second _ _ _ c.args.words.now (c.args.name.now ++ codes "\n") false c.close.result c.in-Ok.ensures.bytes c.close.ensures.lines)

pub returns-in-Err-clause-lines : goal.returns-in-Err-clause-lines
returns-in-Err-clause-lines g c =
    subst (λ (l : List ℕ). GainsFront (g.K.Sink.written c.args.sink.now) (g.K.Sink.written c.write_all.new.sink) l) (sym (append_assoc c.args.words.now c.args.name.now (codes "\n")))
    (front_first _ _ c.args.words.now (c.args.name.now ++ codes "\n") c.in-Err.ensures.bytes)
