use Rattle.std.proofs.Common.{◌≡◌, ◌+◌, arith, refl}
use Rattle.lf.specs.Syntax.{constant, lambda, root, variable}
use Rattle.lf_search.specs.Heads.{outer_head, own_head, own_variable}
use Rattle.tw_open.proofs.Steps.{steps}
use Rattle.tw_terms.specs.View.{head_of, spine_of, term_of}
use Rattle.tw_terms.specs.declared.canonical.Head.TheVariants.{Const}
use Rattle.tw_terms.proofs.Views.{head_of-Const}
use Rattle.tw_search.specs.Clashing.{itself}
use Rattle.tw_search.proofs.RigidHeads.{constant_at, lambda_further, outer_under, own_under, variable_at}
use Rattle.tw_search.proofs.rigid.clause_head.Goals as goal

pub loop-rest-init : goal.loop-rest-init
loop-rest-init c = itself

pub loop-rest-preserved : goal.loop-rest-preserved
loop-rest-preserved c =
    let e : term_of c.loop-rest.rest.now ≡ lambda (term_of c.deref-rest.result.now) = grind (arith, steps) in
    let q : c.in_ok-lambdas-in-Lam.lambdas ≡ c.loop-rest.lambdas + 1 = grind arith in
    lambda_further (term_of c.args.arg.now) (term_of c.loop-rest.rest.now) (term_of c.deref-rest.result.now) c.loop-rest.lambdas c.in_ok-lambdas-in-Lam.lambdas e q c.loop-rest.invariant

pub returns-in-Root-Const-default : goal.returns-in-Root-Const-default
returns-in-Root-Const-default c bs k =
    let x = c.in-Root-Const-default.constant in
    let S = spine_of c.in-Root-Const-default.field-1 in
    let e : term_of c.loop-rest.rest.now ≡ root (constant x.0) S = grind (arith, steps) in
    outer_head (outer_under k c.loop-rest.invariant (constant_at bs (term_of c.loop-rest.rest.now) S x.0 (k + c.loop-rest.lambdas) (head_of (Const x)) e (head_of-Const x)))

pub returns-in-Root-Var-default : goal.returns-in-Root-Var-default
returns-in-Root-Var-default c bs k =
    let v = c.in-Root-Var-default.variable in
    let S = spine_of c.in-Root-Var-default.field-1 in
    let e : term_of c.loop-rest.rest.now ≡ root (variable v) S = grind (arith, steps) in
    let q : v ≡ v + 0 = omega arith in
    own_head (own_under c.loop-rest.invariant (own_variable (variable_at bs (term_of c.loop-rest.rest.now) S v 0 v (variable v) e refl q) c.in_ok-own_number-in-Root-Var-default.ensures))
