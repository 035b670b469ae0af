use Rattle.std.proofs.Common.{◌+◌, arith, sym, ◌∙◌}
use Rattle.tw_lexer.proofs.Pieces.{char-inside}
use Rattle.tw_lexer.proofs.Positions.{line-room, columns-room, place-next}
use Rattle.tw_lexer.proofs.character.step.Goals as goal

pub place_behind-requires-clause-lines : goal.place_behind-requires-clause-lines
place_behind-requires-clause-lines c =
    let stands = sym c.piece_at-found.ensures.found ∙ c.in-Some.is in
    line-room c.args.text.now c.args.spot.byte c.args.spot.place c.requires.here.at (char-inside c.args.text.now c.args.spot.byte c.in-Some.c stands) c.requires.short

pub place_behind-requires-clause-columns : goal.place_behind-requires-clause-columns
place_behind-requires-clause-columns c =
    let room = columns-room c.args.text.now c.args.spot.byte (c.args.spot.byte + c.piece_at-found.result.1) c.args.spot.place c.requires.here.at (omega arith) c.piece_at-found.ensures.within c.requires.short in
    omega (arith, room)

pub returns-in-Some : goal.returns-in-Some
returns-in-Some c =
    let text = c.args.text.now in
    let i = c.args.spot.byte in
    let stands = sym c.piece_at-found.ensures.found ∙ c.in-Some.is in
    let inside = char-inside text i c.in-Some.c stands in
    record {
      stands = stands;
      byte = omega (arith, c.piece_at-found.ensures.size);
      later = omega (arith, c.piece_at-found.ensures.some inside);
      there = record {
        within = c.piece_at-found.ensures.within;
        at = c.place_behind.ensures ∙ place-next text i c.in-Some.c c.piece_at-found.result.1 c.args.spot.place stands c.piece_at-found.ensures.size c.requires.here.at;
      };
    }
