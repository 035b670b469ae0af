use Rattle.std.proofs.Common.{◌<◌, ◌≤◌, arith}
use Rattle.std.proofs.lemmas.Bool.Decides.{nat_tests}
use Rattle.lf.specs.Depth.{type_depth}
use Rattle.tw_terms.specs.View.{type_of}
use Rattle.tw_recon.proofs.Depths.{deep_in, deep_over, never_past, within_next}
use Rattle.tw_recon.proofs.within.is_within.Goals as goal

pub returns-then-depth-gt-DEPTH_LIMIT-clause-deep : goal.returns-then-depth-gt-DEPTH_LIMIT-clause-deep
returns-then-depth-gt-DEPTH_LIMIT-clause-deep c = λ f.
    let deep : 4096 < type_depth (type_of c.in-Some.ty.now) = omega arith in
    deep_in c.args.variables.now c.loop-variable.variable (type_of c.in-Some.ty.now) (type_of c.args.goal.now) c.in-Some.ensures deep

pub unreachable-requires : goal.unreachable-requires
unreachable-requires c = never_past c.args.variables.now c.loop-variable.variable (omega arith) c.in-None.ensures

pub loop-variable-preserved : goal.loop-variable-preserved
loop-variable-preserved c =
    let low : type_depth (type_of c.in-Some.ty.now) ≤ 4096 = omega arith in
    within_next c.args.variables.now c.loop-variable.variable (type_of c.in-Some.ty.now) c.in-Some.ensures low c.loop-variable.invariant

pub returns-clause-deep : goal.returns-clause-deep
returns-clause-deep c = λ f.
    let far : 4096 < c.depth-2.result = grind (arith, nat_tests, f) in
    let deep : 4096 < type_depth (type_of c.args.goal.now) = omega (arith, far) in
    deep_over c.args.variables.now (type_of c.args.goal.now) deep
