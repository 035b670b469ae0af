use Rattle.std.proofs.Common.{◌∙◌, arith, sym}
use Rattle.tw_clause.proofs.Patterns.{is_in_found, is_in_passed}
use Rattle.tw_clause.proofs.pattern.has_number.Goals as goal

pub returns-then-other-number : goal.returns-then-other-number
returns-then-other-number c = sym (is_in_found c.args.number c.args.numbers.now c.loop-other.other-index (omega arith) c.if-other-number.true) ∙ c.loop-other.invariant

pub loop-other-preserved : goal.loop-other-preserved
loop-other-preserved c = is_in_passed c.args.number c.args.numbers.now c.loop-other.other-index (omega arith) c.if-other-number.false ∙ c.loop-other.invariant
