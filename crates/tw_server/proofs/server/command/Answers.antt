use Rattle.std.proofs.Common.{sym, []}
use Rattle.tw_ports.proofs.Gained.{Gains-nil}
use Rattle.tw_server.specs.Words.{said_of}
use Rattle.tw_server.specs.declared.write.Unwritten.{Unwritten}
use Rattle.tw_server.proofs.Counted.{holds_refl}
use Rattle.tw_server.proofs.Seen.{Sees-nil}
use Rattle.tw_server.proofs.Turned.{decl_moves_done, decl_moves_ended, quit_turn, line_turn, line_cut, says_quit, says_text}
use Rattle.tw_server.proofs.server.command.Goals as goal
use Rattle.tw_server.proofs.server.command.Goals.{in-Ok, in-Err}

pub returns-then-is_quit-clause-moves : goal.returns-then-is_quit-clause-moves
returns-then-is_quit-clause-moves g c held bytes body holds line kept = record {
  took = [];
  last = [];
  sees = Sees-nil _ _;
  within = c.requires;
  gains = Gains-nil _;
  outcome = quit_turn held (g.S.Source.left c.args.source.now) c.args.feed.now _ bytes body line (says_quit (said_of body) c.say-said.result (c.say-said.ensures.says body kept) (sym c.if-is_quit.ensures));
}

pub returns-then-is_quit-clause-files : goal.returns-then-is_quit-clause-files
returns-then-is_quit-clause-files g c = holds_refl _

pub returns-then-takes_text-clause-moves : goal.returns-then-takes_text-clause-moves
returns-then-takes_text-clause-moves g c held bytes body holds line kept =
    let says = says_text (said_of body) c.say-said.result (c.say-said.ensures.says body kept) (sym c.if-takes_text.ensures) in
    elim c.match-declaration.branch [
      | in-Ok w ↦ decl_moves_done held w.in-Ok.field-0 (g.F.Files.faults c.args.files.now) bytes body _ w.result-is line says w.in-Ok.ensures.moves
      | in-Err w ↦ decl_moves_ended _ _ held w.in-Err.status (g.F.Files.faults c.args.files.now) bytes body _ w.result-is line says w.in-Err.ensures.moves
    ]

pub returns-then-takes_text-clause-files : goal.returns-then-takes_text-clause-files
returns-then-takes_text-clause-files g c = holds_refl _

pub returns-in-Ok-answer-clause-moves : goal.returns-in-Ok-answer-clause-moves
returns-in-Ok-answer-clause-moves g c held bytes body holds line kept =
    let says = c.say-said.ensures.says body kept in
    line_turn Unwritten held (g.S.Source.left c.args.source.now) c.args.feed.now _ _ _ _ bytes body c.say-said.result c.in-Ok-answer.field-0 c.next.result c.requires line says (sym c.if-takes_text.ensures) (c.next.ensures (said_of body) says)
    (c.in-Ok-answer.ensures.reply held (said_of body) holds says)

pub returns-clause-moves : goal.returns-clause-moves
returns-clause-moves g c held bytes body holds line kept =
    line_cut {E = Unwritten} held (g.S.Source.left c.args.source.now) c.args.feed.now _ _ _ _ bytes body c.say-said.result c.in-Err-answer.field-0 c.requires line (c.say-said.ensures.says body kept) (sym c.if-takes_text.ensures)
    (c.in-Err-answer.ensures.reply held (said_of body) holds (c.say-said.ensures.says body kept))
