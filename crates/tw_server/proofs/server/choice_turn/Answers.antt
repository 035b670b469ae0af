use Rattle.std.proofs.Common.{Err, true, false, refl, subst, sym}
use Rattle.tw_server.specs.Counts.{CountsReads}
use Rattle.tw_server.specs.Feed.{Stopped}
use Rattle.tw_server.specs.Gather.{IsKept}
use Rattle.tw_server.specs.Phases.{a_choice}
use Rattle.tw_server.specs.State.{state_at}
use Rattle.tw_server.specs.declared.feed.Stop.{Stop}
use Rattle.tw_server.proofs.Counted.{status_counts_on, turn_counts_on}
use Rattle.tw_server.proofs.Played.{broken_off, choice_step, last_said, line_open, line_some, said_moves, too_long}
use Rattle.tw_server.proofs.server.choice_turn.Goals as goal

pub returns-in-Ok-clause-moves : goal.returns-in-Ok-clause-moves
returns-in-Ok-clause-moves g c held n w search =
    let l = c.in-Ok.ensures.line in
    let a = c.answer_choice.ensures w l.1 search (subst (λ b. IsKept b l.1) (sym c.body.ensures) l.3) in
    said_moves held (a_choice w) (state_at c.args.session.now n) c.answer_choice.result a.0 a.1 l.0 (choice_step held true w n c.args.session.now l.0 l.1 _ a.0 l.2 a.2) (line_some l.0 l.1 l.2) l.4 l.5 c.say_reply.result c.say_reply.ensures.said

pub returns-in-Err-End-clause-moves : goal.returns-in-Err-End-clause-moves
returns-in-Err-End-clause-moves g c held n w search =
    let l = c.in-Err-End.ensures.line in
    let stop = subst (λ (s : Stop). Stopped s c.read_line.new.feed (g.S.Source.left c.read_line.new.source)) c.in-Err-End.field-0-is l.5 in
    let a = c.answer_choice-in-Err-End.ensures w l.1 search (subst (λ b. IsKept b l.1) (sym c.body-in-Err-End.ensures) l.3) in
    last_said held (a_choice w) (state_at c.args.session.now n) c.answer_choice-in-Err-End.result a.0 a.1 l.0 (choice_step held false w n c.args.session.now l.0 l.1 _ a.0 l.2 a.2) l.4 l.6 stop c.say_last.result c.say_last.ensures.said

pub returns-in-Err-Failed-clause-moves : goal.returns-in-Err-Failed-clause-moves
returns-in-Err-Failed-clause-moves g c held n w search =
    let l = c.in-Err-Failed.ensures.line in
    let stop = subst (λ (s : Stop). Stopped s c.read_line.new.feed (g.S.Source.left c.read_line.new.source)) c.in-Err-Failed.field-0-is l.5 in
    broken_off held (a_choice w) (state_at c.args.session.now n) _ l.0 (line_open l.0 l.1 l.2) l.4 l.6 stop

pub returns-in-Err-Long-clause-moves : goal.returns-in-Err-Long-clause-moves
returns-in-Err-Long-clause-moves g c held n w search =
    let l = c.in-Err-Long.ensures.line in
    let stop = subst (λ (s : Stop). Stopped s c.read_line.new.feed (g.S.Source.left c.read_line.new.source)) c.in-Err-Long.field-0-is l.5 in
    too_long held (a_choice w) (state_at c.args.session.now n) _ l.0 (line_open l.0 l.1 l.2) l.4 l.6 stop

pub returns-in-Ok-clause-counts : goal.returns-in-Ok-clause-counts
returns-in-Ok-clause-counts g c = turn_counts_on _ _ _ _ _ c.say_reply.result c.in-Ok.ensures.counts (c.say_reply.ensures.counts (g.S.Source.faults c.read_line.new.source))

pub returns-in-Err-End-clause-counts : goal.returns-in-Err-End-clause-counts
returns-in-Err-End-clause-counts g c =
    let same = subst (λ (s : Stop). CountsReads {T = Unit {0}} (g.S.Source.faults c.args.source.now) (g.S.Source.faults c.read_line.new.source) (Err s)) c.in-Err-End.field-0-is c.in-Err-End.ensures.counts in
    status_counts_on _ _ _ _ _ _ c.say_last.result same refl (c.say_last.ensures.counts (g.S.Source.faults c.read_line.new.source))
