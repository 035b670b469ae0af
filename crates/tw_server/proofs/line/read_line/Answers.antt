use Rattle.std.proofs.Common.{refl, rules, [], ◌∷◌, ◌++◌}
use Rattle.tw_server.proofs.Seen.{Sees-trans, NoFeed-more, kept_more}
use Rattle.tw_server.proofs.line.read_line.Goals as goal

pub returns-in-Ok-eq10-clause-line : goal.returns-in-Ok-eq10-clause-line
returns-in-Ok-eq10-clause-line g c =
    let i = c.loop-byte.invariant.line in
    let h = c.in-Ok-eq10.ensures.byte in
    (i.body ++ 10 ∷ [], i.body, record { spelled = refl; plain = i.plain }, i.keeps, rw c.in-Ok-eq10.field-0-test at (Sees-trans i.sees h.0), h.1)

pub loop-byte-preserved : goal.loop-byte-preserved
loop-byte-preserved g c =
    let i = c.loop-byte.invariant.line in
    record {
      line = record {
        body = i.body ++ c.in-Ok.byte ∷ [];
        plain = NoFeed-more i.body c.in-Ok.byte i.plain c.in-Ok.byte-test.1;
        keeps = kept_more c.loop-byte.line c.push.new.self i.body c.in-Ok.byte i.keeps c.push.ensures;
        sees = Sees-trans i.sees c.in-Ok.ensures.byte.0;
      };
      counts = search rules;
    }
