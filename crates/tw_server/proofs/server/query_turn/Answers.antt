use Rattle.std.proofs.Common.{Err, true, false, refl, subst}
use Rattle.tw_server.specs.Counts.{CountsReads}
use Rattle.tw_server.specs.Feed.{Stopped}
use Rattle.tw_server.specs.Phases.{a_query}
use Rattle.tw_server.specs.State.{state_at}
use Rattle.tw_server.specs.declared.feed.Stop.{Stop}
use Rattle.tw_server.proofs.Counted.{status_counts_on, turn_counts_on}
use Rattle.tw_server.proofs.Played.{broken_off, last_said, query_step, said_moves, text_some, too_long}
use Rattle.tw_server.proofs.server.query_turn.Goals as goal

pub returns-in-Ok-clause-moves : goal.returns-in-Ok-clause-moves
returns-in-Ok-clause-moves g c held n =
    let t = c.in-Ok.ensures.text in
    let a = c.answer_query.ensures t.0 t.2 in
    said_moves held a_query (state_at c.args.session.now n) c.answer_query.result a.0 a.1 t.0 (query_step held true n c.args.session.now t.0 _ a.0 t.1 a.2) (text_some t.0 t.1) t.3 t.4 c.say_reply.result c.say_reply.ensures.said

pub returns-in-Err-End-clause-moves : goal.returns-in-Err-End-clause-moves
returns-in-Err-End-clause-moves g c held n =
    let t = c.in-Err-End.ensures.text in
    let stop = subst (λ (s : Stop). Stopped s c.read_text.new.feed (g.S.Source.left c.read_text.new.source)) c.in-Err-End.field-0-is t.4 in
    let a = c.answer_query-in-Err-End.ensures t.0 t.2 in
    last_said held a_query (state_at c.args.session.now n) c.answer_query-in-Err-End.result a.0 a.1 t.0 (query_step held false n c.args.session.now t.0 _ a.0 t.1 a.2) t.3 t.5 stop c.say_last.result c.say_last.ensures.said

pub returns-in-Err-Failed-clause-moves : goal.returns-in-Err-Failed-clause-moves
returns-in-Err-Failed-clause-moves g c held n =
    let t = c.in-Err-Failed.ensures.text in
    let stop = subst (λ (s : Stop). Stopped s c.read_text.new.feed (g.S.Source.left c.read_text.new.source)) c.in-Err-Failed.field-0-is t.4 in
    broken_off held a_query (state_at c.args.session.now n) _ t.0 t.1 t.3 t.5 stop

pub returns-clause-moves : goal.returns-clause-moves
returns-clause-moves g c held n =
    let t = c.in-Err-Long.ensures.text in
    let stop = subst (λ (s : Stop). Stopped s c.read_text.new.feed (g.S.Source.left c.read_text.new.source)) c.in-Err-Long.field-0-is t.4 in
    too_long held a_query (state_at c.args.session.now n) _ t.0 t.1 t.3 t.5 stop

pub returns-in-Ok-clause-counts : goal.returns-in-Ok-clause-counts
returns-in-Ok-clause-counts g c = turn_counts_on _ _ _ _ _ c.say_reply.result c.in-Ok.ensures.counts (c.say_reply.ensures.counts (g.S.Source.faults c.read_text.new.source))

pub returns-in-Err-End-clause-counts : goal.returns-in-Err-End-clause-counts
returns-in-Err-End-clause-counts g c =
    let same = subst (λ (s : Stop). CountsReads {T = Unit {0}} (g.S.Source.faults c.args.source.now) (g.S.Source.faults c.read_text.new.source) (Err s)) c.in-Err-End.field-0-is c.in-Err-End.ensures.counts in
    status_counts_on _ _ _ _ _ _ c.say_last.result same refl (c.say_last.ensures.counts (g.S.Source.faults c.read_text.new.source))
