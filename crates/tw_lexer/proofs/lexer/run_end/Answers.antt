use Rattle.std.proofs.Common.{◌+◌, arith, sym, ◌∙◌}
use Rattle.tw_lexer.proofs.Finds.{run-more, run-none, run-end}
use Rattle.tw_lexer.proofs.lexer.run_end.Goals as goal

pub loop-upto-preserved : goal.loop-upto-preserved
loop-upto-preserved c =
    let i = c.loop-upto.upto in
    let piece = c.piece_at-found in (
      piece.ensures.within,
      omega (arith, c.loop-upto.invariant.1, run-more c.args.text.now i (i + piece.result.1) piece.result.0 c.loop-upto-test.true (omega (arith, piece.ensures.size)) piece.ensures.found (sym c.is_plain.ensures ∙ c.if-not-is_plain.false)),
    )

pub returns-after-loop-upto-clause-end : goal.returns-after-loop-upto-clause-end
returns-after-loop-upto-clause-end c = omega (arith, c.loop-upto.invariant.1, run-end c.args.text.now c.loop-upto.upto c.loop-upto-test.false)

pub returns-then-not-is_plain-clause-end : goal.returns-then-not-is_plain-clause-end
returns-then-not-is_plain-clause-end c =
    let piece = c.piece_at-found in
    omega (arith, c.loop-upto.invariant.1, run-none c.args.text.now c.loop-upto.upto piece.result.0 c.loop-upto-test.true piece.ensures.found (sym c.is_plain.ensures ∙ c.if-not-is_plain.true))
