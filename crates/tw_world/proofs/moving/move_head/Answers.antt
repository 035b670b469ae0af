use Rattle.std.proofs.Common.{◌≡◌, ◌+◌, ◌∙◌, ap, sym, arith}
use Rattle.lf.specs.AtOnce.{lift_renaming_by}
use Rattle.lf.specs.Syntax.{rename_head, variable}
use Rattle.tw_terms.specs.View.{head_of}
use Rattle.tw_terms.specs.declared.canonical.Head.TheVariants.{Var}
use Rattle.tw_terms.proofs.Args.{types}
use Rattle.tw_world.specs.Changes.{change_of}
use Rattle.tw_world.proofs.Moved.{moves, stays}
use Rattle.tw_world.proofs.moving.move_head.Goals as goal

pub returns-then-variable-under : goal.returns-then-variable-under
returns-then-variable-under c =
    let e : head_of c.args.head ≡ variable c.in-Var.variable = grind (arith, types) in
    ap head_of (sym c.in-Var.is) ∙ e ∙ sym (ap (rename_head (lift_renaming_by c.args.under (change_of c.args.change))) e ∙ stays c.args.under c.in-Var.variable (change_of c.args.change) (omega arith))

pub returns-in_ok-sum-in-Var : goal.returns-in_ok-sum-in-Var
returns-in_ok-sum-in-Var c =
    let e : head_of c.args.head ≡ variable c.in-Var.variable = grind (arith, types) in
    let k = c.in_ok-sum-in-Var.field-0 in
    let f : head_of (Var k) ≡ variable k = grind (arith, types) in
    let m = moves c.args.under c.in-Var.variable k (change_of c.args.change) (omega arith) (c.in_ok-sum-in-Var.ensures ∙ ap (λ n. n + c.args.under) c.in_ok-outside-in-Var.ensures) in
    f ∙ sym (ap (rename_head (lift_renaming_by c.args.under (change_of c.args.change))) e ∙ m)
