use Rattle.std.proofs.Common.{◌≡◌, arith}
use Rattle.lf.specs.Syntax.{variable}
use Rattle.tw_terms.specs.OpenView.{open_head_of}
use Rattle.tw_putting.proofs.Shifts.{head_moves, head_stays, shifts}
use Rattle.tw_putting.proofs.shifting.shift_head.Goals as goal

pub returns-then-variable-from : goal.returns-then-variable-from
returns-then-variable-from c =
    let e : open_head_of c.args.head ≡ variable c.in-Var.variable = grind (arith, shifts) in
    let r = head_stays c.args.from c.args.by c.in-Var.variable (omega arith) in
    grind (arith, shifts, r)

pub returns-in_ok-ok_or-in-Var : goal.returns-in_ok-ok_or-in-Var
returns-in_ok-ok_or-in-Var c =
    let e : open_head_of c.args.head ≡ variable c.in-Var.variable = grind (arith, shifts) in
    let r = head_moves c.args.from c.args.by c.in-Var.variable (omega arith) in
    grind (arith, shifts, r)
