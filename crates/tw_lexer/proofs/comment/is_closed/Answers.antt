use Rattle.std.proofs.Common.{◌+◌, arith, sym, ◌∙◌}
use Rattle.tw_lexer.specs.Comments.{deep}
use Rattle.tw_lexer.specs.declared.comment.Bracket.TheVariants.{Opens, Closes, Neither}
use Rattle.tw_lexer.proofs.Finds.{closed-by, closed-last, closed-more, closed-end, closes-inside}
use Rattle.tw_lexer.proofs.comment.is_closed.Goals as goal

pub loop-from-preserved-in-Opens : goal.loop-from-preserved-in-Opens
loop-from-preserved-in-Opens c =
    let i = c.loop-from.from in
    let first = c.piece_at-first in
    let second = c.piece_at-second in
    record {
      within = first.ensures.within;
      depth = omega (arith, first.ensures.some c.loop-from-test.true, c.loop-from.invariant.depth);
      same =
          c.loop-from.invariant.same
          ∙ closed-by c.args.text.now c.loop-from.depth i (i + first.result.1) first.result.0 second.result.0 Opens c.loop-from-test.true (omega (arith, first.ensures.size)) first.ensures.found second.ensures.found c.in-Opens.ensures;
    }

pub returns-in-Closes : goal.returns-in-Closes
returns-in-Closes c =
    let i = c.loop-from.from in
    let first = c.piece_at-first in
    let second = c.piece_at-second in
    sym (
    c.loop-from.invariant.same
    ∙ closed-by c.args.text.now c.loop-from.depth i (i + first.result.1) first.result.0 second.result.0 Closes c.loop-from-test.true (omega (arith, first.ensures.size)) first.ensures.found second.ensures.found c.in-Closes.ensures
    ∙ closed-last c.args.text.now c.loop-from.depth (i + first.result.1) (closes-inside c.args.text.now first.result.0 second.result.0 (i + first.result.1) c.in-Closes.ensures second.ensures.found) c.if-depth-le1.true
    )

pub loop-from-preserved-in-Closes-2 : goal.loop-from-preserved-in-Closes-2
loop-from-preserved-in-Closes-2 c =
    let i = c.loop-from.from in
    let first = c.piece_at-first in
    let second = c.piece_at-second in
    let j = i + first.result.1 in
    record {
      within = second.ensures.within;
      depth = omega (arith, c.loop-from.invariant.depth);
      same =
          c.loop-from.invariant.same
          ∙ closed-by c.args.text.now c.loop-from.depth i j first.result.0 second.result.0 Closes c.loop-from-test.true (omega (arith, first.ensures.size)) first.ensures.found second.ensures.found c.in-Closes-2.ensures
          ∙ closed-more c.args.text.now c.loop-from.depth j (j + second.result.1) (closes-inside c.args.text.now first.result.0 second.result.0 j c.in-Closes-2.ensures second.ensures.found) (omega (arith, second.ensures.size)) c.if-depth-le1.false;
    }

pub loop-from-preserved : goal.loop-from-preserved
loop-from-preserved c =
    let i = c.loop-from.from in
    let first = c.piece_at-first in
    let second = c.piece_at-second in
    record {
      within = first.ensures.within;
      depth = omega (arith, c.loop-from.invariant.depth);
      same =
          c.loop-from.invariant.same
          ∙ closed-by c.args.text.now c.loop-from.depth i (i + first.result.1) first.result.0 second.result.0 Neither c.loop-from-test.true (omega (arith, first.ensures.size)) first.ensures.found second.ensures.found c.in-Neither.ensures;
    }

pub returns : goal.returns
returns c = sym (c.loop-from.invariant.same ∙ closed-end c.args.text.now (deep c.loop-from.depth) c.loop-from.from c.loop-from-test.false)
