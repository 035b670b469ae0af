use Rattle.tw_server.specs.Phases.{Phase}
use Rattle.tw_server.specs.State.{state_at}
use Rattle.tw_server.specs.Turns.{Moves, TurnOf}
use Rattle.tw_server.proofs.Counted.{holds_refl}
use Rattle.tw_server.proofs.Played.{next_choice, next_command, next_query, some_search}
use Rattle.tw_server.proofs.server.turn.Goals as goal

pub returns-in-Command-clause-moves : goal.returns-in-Command-clause-moves
returns-in-Command-clause-moves g c held p holds is =
    next_command c.args.session.now.signature c.args.phase
    (λ (q : Phase). Moves c.args.feed.now (g.S.Source.left c.args.source.now) c.command_turn.new.feed (g.S.Source.left c.command_turn.new.source) (g.K.Sink.written c.args.sink.now) (g.K.Sink.written c.command_turn.new.sink)
    (λ took last. TurnOf held (g.S.Source.left c.command_turn.new.source) c.command_turn.new.feed c.command_turn.result q (state_at c.args.session.now (g.F.Files.faults c.args.files.now)) took last (state_at c.command_turn.new.session (g.F.Files.faults c.command_turn.new.files))))
    c.in-Command.is (c.command_turn.ensures.moves held holds) p is

pub returns-in-Query-clause-files : goal.returns-in-Query-clause-files
returns-in-Query-clause-files g c = holds_refl _

pub returns-in-Choice-clause-files : goal.returns-in-Choice-clause-files
returns-in-Choice-clause-files g c = holds_refl _

pub returns-in-Query-clause-moves : goal.returns-in-Query-clause-moves
returns-in-Query-clause-moves g c held p holds is =
    next_query c.args.session.now.signature c.args.phase
    (λ (q : Phase). Moves c.args.feed.now (g.S.Source.left c.args.source.now) c.query_turn.new.feed (g.S.Source.left c.query_turn.new.source) (g.K.Sink.written c.args.sink.now) (g.K.Sink.written c.query_turn.new.sink)
    (λ took last. TurnOf held (g.S.Source.left c.query_turn.new.source) c.query_turn.new.feed c.query_turn.result q (state_at c.args.session.now (g.F.Files.faults c.args.files.now)) took last (state_at c.args.session.now (g.F.Files.faults c.args.files.now))))
    c.in-Query.is (c.query_turn.ensures.moves held (g.F.Files.faults c.args.files.now)) p is

pub choice_turn-requires : goal.choice_turn-requires
choice_turn-requires g c = some_search c.args.session.now.signature c.args.phase c.in-Choice.waiting c.in-Choice.is c.requires.phase

pub returns-in-Choice-clause-moves : goal.returns-in-Choice-clause-moves
returns-in-Choice-clause-moves g c held p holds is =
    next_choice c.args.session.now.signature c.args.phase c.in-Choice.waiting
    (λ (q : Phase). Moves c.args.feed.now (g.S.Source.left c.args.source.now) c.choice_turn.new.feed (g.S.Source.left c.choice_turn.new.source) (g.K.Sink.written c.args.sink.now) (g.K.Sink.written c.choice_turn.new.sink)
    (λ took last. TurnOf held (g.S.Source.left c.choice_turn.new.source) c.choice_turn.new.feed c.choice_turn.result q (state_at c.args.session.now (g.F.Files.faults c.args.files.now)) took last (state_at c.args.session.now (g.F.Files.faults c.args.files.now))))
    c.in-Choice.is (λ w search. c.choice_turn.ensures.moves held (g.F.Files.faults c.args.files.now) w search) p is
