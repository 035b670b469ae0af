use Rattle.std.proofs.Common.{◌≡◌, ◌+◌, arith, refl}
use Rattle.lf.specs.Syntax.{root, variable}
use Rattle.tw_open.proofs.Steps.{steps}
use Rattle.tw_terms.specs.OpenView.{open_spine_of, open_term_of}
use Rattle.tw_search.proofs.RigidHeads.{outer_under, variable_at}
use Rattle.tw_search.proofs.rigid.written_variable.Goals as goal

pub returns-in_ok-checked_sub-in-Root-Var-default : goal.returns-in_ok-checked_sub-in-Root-Var-default
returns-in_ok-checked_sub-in-Root-Var-default c bs =
    let N = open_term_of c.in_ok-inside.inside.now in
    let v = c.in-Root-Var-default.variable in
    let i = c.in_ok-checked_sub-in-Root-Var-default.field-0 in
    let n = c.in_ok-inside.lambdas in
    let S = open_spine_of c.in-Root-Var-default.field-1 in
    let e : N ≡ root (variable v) S = grind (arith, steps) in
    let q : v ≡ i + (0 + n) = grind arith in
    outer_under 0 c.in_ok-inside.ensures (variable_at bs N S v (0 + n) i (variable i) e refl q)
