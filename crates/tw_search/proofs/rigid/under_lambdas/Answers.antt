use Rattle.std.proofs.Common.{◌≡◌, ◌+◌, arith}
use Rattle.lf.specs.Syntax.{lambda}
use Rattle.tw_open.proofs.Steps.{steps}
use Rattle.tw_terms.specs.OpenView.{open_term_of}
use Rattle.tw_search.specs.Clashing.{itself}
use Rattle.tw_search.proofs.RigidHeads.{lambda_further}
use Rattle.tw_search.proofs.rigid.under_lambdas.Goals as goal

pub loop-rest-init : goal.loop-rest-init
loop-rest-init c = itself

pub loop-rest-preserved : goal.loop-rest-preserved
loop-rest-preserved c =
    let e : open_term_of c.loop-rest.rest.now ≡ lambda (open_term_of c.deref-rest.result.now) = grind (arith, steps) in
    let q : c.in_ok-lambdas-in-Lam.lambdas ≡ c.loop-rest.lambdas + 1 = grind arith in
    lambda_further (open_term_of c.args.term.now) (open_term_of c.loop-rest.rest.now) (open_term_of c.deref-rest.result.now) c.loop-rest.lambdas c.in_ok-lambdas-in-Lam.lambdas e q c.loop-rest.invariant
