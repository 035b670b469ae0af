use Rattle.std.proofs.Common.{◌-◌, arith, sym}
use Rattle.tw_mode.proofs.Sets.{in_marks_at, in_marks_past, in_marks_short}
use Rattle.tw_mode.proofs.marks.is_marked.Goals as goal

pub returns-then-variable-depth : goal.returns-then-variable-depth
returns-then-variable-depth c = sym (in_marks_past c.args.other c.args.depth c.args.variable c.args.marks.now (omega arith))

pub returns-then-place-marks : goal.returns-then-place-marks
returns-then-place-marks c = sym (in_marks_short c.args.other c.args.depth c.args.variable c.args.marks.now (omega arith))

pub returns : goal.returns
returns c = sym (in_marks_at c.args.other c.args.depth c.args.variable (c.args.depth - 1 - c.args.variable) c.args.marks.now (omega arith) (omega arith))
