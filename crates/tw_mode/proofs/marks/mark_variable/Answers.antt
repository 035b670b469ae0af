use Rattle.std.proofs.Common.{◌∙◌, ap, arith}
use Rattle.tw_signature.proofs.Marking.{marked_variable, marked_outside}
use Rattle.tw_signature.specs.Marks.{marked}
use Rattle.tw_mode.proofs.Sets.{same_turned}
use Rattle.tw_mode.proofs.marks.mark_variable.Goals as goal
use mathlib.Core.Path.{fun_ext}

pub returns-then-variable-depth : goal.returns-then-variable-depth
returns-then-variable-depth c = marked_outside c.args.depth c.args.variable c.args.marks.now (λ a b. omega (arith, a, b)) ∙ ap (λ f. marked c.args.depth f c.args.marks.now) (fun_ext (λ i. same_turned i c.args.variable))

pub returns-then-place-marks : goal.returns-then-place-marks
returns-then-place-marks c = marked_outside c.args.depth c.args.variable c.args.marks.now (λ a b. omega (arith, a, b)) ∙ ap (λ f. marked c.args.depth f c.args.marks.now) (fun_ext (λ i. same_turned i c.args.variable))

pub returns : goal.returns
returns c = marked_variable c.args.depth c.args.variable c.args.marks.now (omega arith) (omega arith) ∙ ap (λ f. marked c.args.depth f c.args.marks.now) (fun_ext (λ i. same_turned i c.args.variable))
