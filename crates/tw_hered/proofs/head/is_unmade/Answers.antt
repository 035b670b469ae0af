use Rattle.std.proofs.Common.{◌≡◌, arith}
use Rattle.lf.specs.Syntax.{variable, root}
use Rattle.lf_closures.specs.Environments.{found, stays, closure, under}
use Rattle.tw_terms.specs.View.{term_of, spine_of, skeleton_of}
use Rattle.tw_hered.specs.View.{environment_of}
use Rattle.tw_hered.proofs.Environments.{environments}
use Rattle.tw_hered.proofs.Unmade.{applied}
use Rattle.tw_hered.proofs.head.is_unmade.Goals as goal

pub returns-in-Closure : goal.returns-in-Closure
returns-in-Closure c =
    let e = environment_of c.args.environment.now in
    let i = c.in-Root-Var-default.variable in
    let m : term_of c.loop-body.body.now ≡ root (variable i) (spine_of c.in-Root-Var-default.field-1) = grind (arith, environments) in
    let f : closure (skeleton_of c.in-Closure.field-0.skeleton.now) (term_of c.in-Closure.field-0.term.now) (environment_of c.in-Closure.field-0.scope.now) c.in-Closure.field-0.binders ≡ found (under c.loop-body.bound e) i = grind (arith, environments) in
    applied e c.loop-body.bound i (spine_of c.in-Root-Var-default.field-1) (term_of c.loop-body.body.now) (term_of c.args.term.now) _ c.if-bound-gt0.true c.loop-body.invariant m f

pub returns-in-Variable : goal.returns-in-Variable
returns-in-Variable c =
    let e = environment_of c.args.environment.now in
    let i = c.in-Root-Var-default.variable in
    let m : term_of c.loop-body.body.now ≡ root (variable i) (spine_of c.in-Root-Var-default.field-1) = grind (arith, environments) in
    let f : stays c.in-Variable.field-0 ≡ found (under c.loop-body.bound e) i = grind (arith, environments) in
    applied e c.loop-body.bound i (spine_of c.in-Root-Var-default.field-1) (term_of c.loop-body.body.now) (term_of c.args.term.now) _ c.if-bound-gt0.true c.loop-body.invariant m f
