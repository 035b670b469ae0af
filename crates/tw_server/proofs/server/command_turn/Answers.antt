use Rattle.std.proofs.Common.{subst}
use Rattle.tw_server.specs.Feed.{Stopped}
use Rattle.tw_server.specs.declared.feed.Stop.{Stop}
use Rattle.tw_server.specs.declared.write.Unwritten.{Unwritten}
use Rattle.tw_server.proofs.Turned.{line_moves, last_moves, last_cut}
use Rattle.tw_server.proofs.server.command_turn.Goals as goal

pub returns-in-Ok-clause-moves : goal.returns-in-Ok-clause-moves
returns-in-Ok-clause-moves g c held holds =
    let l = c.in-Ok.ensures.line in
    line_moves l.0 l.4 (c.command.ensures.moves held l.0 l.1 holds l.2 l.3)

pub returns-in-Ok-last_command-clause-moves : goal.returns-in-Ok-last_command-clause-moves
returns-in-Ok-last_command-clause-moves g c held holds =
    let l = c.in-Err-End.ensures.line in
    let stop = subst (λ (s : Stop). Stopped s c.read_line.new.feed (g.S.Source.left c.read_line.new.source)) c.in-Err-End.field-0-is l.5 in
    last_moves held Unwritten c.in-Ok-last_command.field-0 l.0 l.1 l.2 l.4 l.6 stop (c.in-Ok-last_command.ensures.last held l.0 l.1 holds l.2 l.3)

pub returns-in-Err-clause-moves : goal.returns-in-Err-clause-moves
returns-in-Err-clause-moves g c held holds =
    let l = c.in-Err-End.ensures.line in
    let stop = subst (λ (s : Stop). Stopped s c.read_line.new.feed (g.S.Source.left c.read_line.new.source)) c.in-Err-End.field-0-is l.5 in
    last_cut held Unwritten c.in-Err.field-0 l.0 l.1 l.2 l.4 l.6 stop (c.in-Err.ensures.last held l.0 l.1 holds l.2 l.3)
