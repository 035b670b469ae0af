use Rattle.std.proofs.Common.{arith, ap, sym, ◌∙◌}
use Rattle.tw_lexer.specs.Tokens.{between, in_line}
use Rattle.tw_lexer.proofs.Finds.{bad, line-none, line-feed, line-more, seek-end}
use Rattle.tw_lexer.proofs.comment.skip_line.Goals as goal

pub returns-in-None : goal.returns-in-None
returns-in-None c =
    c.loop-spot.invariant.same
    ∙ line-none c.args.text.now c.loop-spot.spot.byte c.loop-spot-test.true c.in-None.ensures
    ∙ ap bad (sym c.loop-spot.invariant.here.at)

pub returns-then-found-eq10 : goal.returns-then-found-eq10
returns-then-found-eq10 c =
    let next = c.in-Some.next in
    let b = c.in-Some.ensures in (
      b.there,
      omega (arith, b.later, c.loop-spot.invariant.later),
      c.loop-spot.invariant.same
          ∙ line-feed c.args.text.now c.loop-spot.spot.byte next.1.byte next.0 c.loop-spot-test.true b.byte b.stands c.if-found-eq10.true,
    )

pub loop-spot-preserved : goal.loop-spot-preserved
loop-spot-preserved c =
    let next = c.in-Some.next in
    let b = c.in-Some.ensures in
    record {
      here = b.there;
      later = omega (arith, b.later, c.loop-spot.invariant.later);
      same =
          c.loop-spot.invariant.same
          ∙ line-more c.args.text.now c.loop-spot.spot.byte next.1.byte next.0 c.loop-spot-test.true b.byte b.stands c.if-found-eq10.false;
    }

pub returns : goal.returns
returns c = (
  c.loop-spot.invariant.here,
  c.loop-spot.invariant.later,
  c.loop-spot.invariant.same
      ∙ seek-end c.args.text.now in_line c.loop-spot.spot.byte c.loop-spot-test.false
      ∙ sym (seek-end c.args.text.now between c.loop-spot.spot.byte c.loop-spot-test.false),
)
