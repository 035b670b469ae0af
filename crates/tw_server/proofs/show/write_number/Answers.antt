use Rattle.std.proofs.Common.{◌≡◌, ◌∙◌, ap, sym, subst, List, ℕ, ◌++◌, append_assoc, codes, decimal}
use Rattle.tw_server.specs.Replies.{accepted}
use Rattle.tw_server.specs.Written.{GainsReply}
use Rattle.tw_server.proofs.show.write_number.Goals as goal

pub returns-clause-bytes : goal.returns-clause-bytes
returns-clause-bytes g c =
    let e : c.as_bytes.result.now ≡ decimal c.args.number = c.as_bytes.ensures.value ∙ c.format-digits.ensures.text in
    subst (λ (l : List ℕ). GainsReply (g.K.Sink.written c.args.sink.now) (g.K.Sink.written c.write_both.new.sink) l c.write_both.result)
    (ap (λ (l : List ℕ). l ++ (codes "\n" ++ accepted)) e ∙ sym (append_assoc (decimal c.args.number) (codes "\n") accepted)) c.write_both.ensures.bytes
