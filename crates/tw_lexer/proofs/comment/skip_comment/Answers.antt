use Rattle.std.proofs.Common.{◌+◌, arith, ap, sym, ◌∙◌, true, false}
use Rattle.tw_lexer.specs.Comments.{deep}
use Rattle.tw_lexer.specs.Tokens.{in_comment}
use Rattle.tw_lexer.specs.declared.comment.Bracket.TheVariants.{Opens, Closes, Neither}
use Rattle.tw_lexer.proofs.Finds.{bad, comment-none, comment-by, comment-last, comment-more, closes-inside, seek-end}
use Rattle.tw_lexer.proofs.comment.skip_comment.Goals as goal

pub returns-then-is_closed : goal.returns-then-is_closed
returns-then-is_closed c =
    c.loop-spot.invariant.same
    ∙ comment-none c.args.text.now c.args.begin (deep c.loop-spot.depth) c.loop-spot.spot.byte true c.loop-spot-test.true c.in-None.ensures (sym c.if-is_closed.true ∙ c.is_closed.ensures)
    ∙ ap bad (sym c.loop-spot.invariant.here.at)

pub returns-else-is_closed : goal.returns-else-is_closed
returns-else-is_closed c =
    c.loop-spot.invariant.same
    ∙ comment-none c.args.text.now c.args.begin (deep c.loop-spot.depth) c.loop-spot.spot.byte false c.loop-spot-test.true c.in-None.ensures (sym c.if-is_closed.false ∙ c.is_closed.ensures)

pub loop-spot-preserved-in-Opens : goal.loop-spot-preserved-in-Opens
loop-spot-preserved-in-Opens c =
    let next = c.in-Some.next in
    let b = c.in-Some.ensures in
    record {
      here = b.there;
      later = omega (arith, b.later, c.loop-spot.invariant.later);
      depth = omega (arith, b.later, c.loop-spot.invariant.depth);
      same =
          c.loop-spot.invariant.same
          ∙ comment-by c.args.text.now c.args.begin c.loop-spot.depth c.loop-spot.spot.byte next.1.byte next.0 c.piece_at.result.0 Opens c.loop-spot-test.true b.byte b.stands c.piece_at.ensures.found c.in-Opens.ensures;
    }

pub returns-then-depth-le1 : goal.returns-then-depth-le1
returns-then-depth-le1 c =
    let next = c.in-Some.next in
    let b = c.in-Some.ensures in
    let d = c.in-Some-step.ensures in (
      d.there,
      omega (arith, b.later, d.later, c.loop-spot.invariant.later),
      c.loop-spot.invariant.same
          ∙ comment-by c.args.text.now c.args.begin c.loop-spot.depth c.loop-spot.spot.byte next.1.byte next.0 c.piece_at.result.0 Closes c.loop-spot-test.true b.byte b.stands c.piece_at.ensures.found c.in-Closes.ensures
          ∙ comment-last c.args.text.now c.args.begin c.loop-spot.depth next.1.byte c.in-Some-step.outside.byte c.in-Some-step.field-0-0 (omega (arith, d.later, d.there.within)) d.byte d.stands c.if-depth-le1.true,
    )

pub loop-spot-preserved-in-Some-step : goal.loop-spot-preserved-in-Some-step
loop-spot-preserved-in-Some-step c =
    let next = c.in-Some.next in
    let b = c.in-Some.ensures in
    let d = c.in-Some-step.ensures in
    record {
      here = d.there;
      later = omega (arith, b.later, d.later, c.loop-spot.invariant.later);
      depth = omega (arith, b.later, d.later, c.loop-spot.invariant.depth);
      same =
          c.loop-spot.invariant.same
          ∙ comment-by c.args.text.now c.args.begin c.loop-spot.depth c.loop-spot.spot.byte next.1.byte next.0 c.piece_at.result.0 Closes c.loop-spot-test.true b.byte b.stands c.piece_at.ensures.found c.in-Closes.ensures
          ∙ comment-more c.args.text.now c.args.begin c.loop-spot.depth next.1.byte c.in-Some-step.outside.byte c.in-Some-step.field-0-0 (omega (arith, d.later, d.there.within)) d.byte d.stands c.if-depth-le1.false;
    }

pub loop-spot-preserved : goal.loop-spot-preserved
loop-spot-preserved c =
    let next = c.in-Some.next in
    let b = c.in-Some.ensures in
    record {
      here = b.there;
      later = omega (arith, b.later, c.loop-spot.invariant.later);
      depth = omega (arith, b.later, c.loop-spot.invariant.depth);
      same =
          c.loop-spot.invariant.same
          ∙ comment-by c.args.text.now c.args.begin c.loop-spot.depth c.loop-spot.spot.byte next.1.byte next.0 c.piece_at.result.0 Neither c.loop-spot-test.true b.byte b.stands c.piece_at.ensures.found c.in-Neither.ensures;
    }

pub returns : goal.returns
returns c = c.loop-spot.invariant.same ∙ seek-end c.args.text.now (in_comment c.args.begin (deep c.loop-spot.depth)) c.loop-spot.spot.byte c.loop-spot-test.false
