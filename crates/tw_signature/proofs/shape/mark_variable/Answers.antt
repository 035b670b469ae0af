use Rattle.std.proofs.Common.{arith}
use Rattle.tw_signature.proofs.Marking.{marked_variable, marked_outside}
use Rattle.tw_signature.proofs.shape.mark_variable.Goals as goal

pub returns-then-variable-depth : goal.returns-then-variable-depth
returns-then-variable-depth c = marked_outside c.args.depth c.args.variable c.args.marks.now (λ a b. omega (arith, a, b))

pub returns-then-place-marks : goal.returns-then-place-marks
returns-then-place-marks c = marked_outside c.args.depth c.args.variable c.args.marks.now (λ a b. omega (arith, a, b))

pub returns : goal.returns
returns c = marked_variable c.args.depth c.args.variable c.args.marks.now (omega arith) (omega arith)
