use Rattle.std.proofs.Common.{true}
use Rattle.tw_server.proofs.server.declaration.Goals as goal

pub returns-in-Ok-clause-moves : goal.returns-in-Ok-clause-moves
returns-in-Ok-clause-moves g c =
    let t = c.in-Ok.ensures.text in
    let a = c.in-Err.ensures.reply t.0 t.2 in
    record {
      took = t.0;
      last = a.2.0;
      sees = t.3;
      within = t.4;
      gains = a.2.3;
      outcome = record { whole = true; reply = a.0; reads = t.1; replies = a.1; cut = (a.2.1, a.2.2, a.2.4); at_end = λ e. cc };
    }
