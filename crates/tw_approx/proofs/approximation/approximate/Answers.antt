use Rattle.tw_approx.specs.Names.{IsFreeVariable}
use Rattle.tw_approx.specs.Reading.{state_of}
use Rattle.tw_approx.specs.Skeletons.{Fits}
use Rattle.tw_parse.specs.View.{declaration_of}
use Rattle.tw_approx.proofs.Answering.{if_ok}
use Rattle.tw_approx.proofs.Causes.{if_err, declaration_open}
use Rattle.tw_approx.proofs.Fitting.{solved_once}
use Rattle.tw_approx.proofs.approximation.approximate.Goals as goal

pub returns-in-Some-clause-objects : goal.returns-in-Some-clause-objects
returns-in-Some-clause-objects c = if_ok c.solved.result _ _ (λ a s. c.in_ok-of_objects.ensures.objects) c.solved.ensures.solved

pub returns-in-Some-clause-skeletons : goal.returns-in-Some-clause-skeletons
returns-in-Some-clause-skeletons c =
    let es = c.args.signature.now in
    let d = declaration_of c.args.decl.now in
    let t = state_of c.in-Some.walk in
    let found = rw c.in-Some.is at c.in_ok-walk.ensures in
    if_ok c.solved.result _ _ (λ a s. solved_once (λ x. IsFreeVariable es x d) (λ f p. Fits es f p d) t found _ _ s) c.solved.ensures.solved

pub returns-in-Some-clause-refused : goal.returns-in-Some-clause-refused
returns-in-Some-clause-refused c =
    let found = rw c.in-Some.is at c.in_ok-walk.ensures in
    let shallow = rw c.if-branch.false at c.in_ok-declares_deeply.ensures in
    if_err c.solved.result _ _ (declaration_open c.args.signature.now (state_of c.in-Some.walk) (declaration_of c.args.decl.now) (c.in_ok-known.ensures.known, shallow) c.in_ok-of_objects.ensures.objects found) c.solved.ensures.open
