use Rattle.std.proofs.Common.{[]}
use Rattle.tw_approx.specs.Answer.{frees_of}
use Rattle.tw_approx.specs.Names.{IsFreeIn}
use Rattle.tw_approx.specs.Reading.{state_of}
use Rattle.tw_approx.specs.Skeletons.{FitsQuery}
use Rattle.tw_parse.specs.View.{term_of}
use Rattle.tw_approx.proofs.Answering.{if_ok}
use Rattle.tw_approx.proofs.Causes.{if_err, query_open, goal_is_type}
use Rattle.tw_approx.proofs.Fitting.{solved_once}
use Rattle.tw_approx.proofs.query.approximate_query.Goals as goal

pub returns-in-Some-clause-ty : goal.returns-in-Some-clause-ty
returns-in-Some-clause-ty c =
    let es = c.args.signature.now in
    let A = term_of c.args.query.now.goal in
    let found = rw c.in-Some.is at c.in_ok-walk.ensures in
    if_ok c.solved.result _ _ (λ a s. goal_is_type es (frees_of _) A _ (solved_once (λ x. IsFreeIn es x [] A) (λ f p. FitsQuery es f p A) (state_of c.in-Some.walk) found _ _ s).fits) c.solved.ensures.solved

pub returns-in-Some-clause-objects : goal.returns-in-Some-clause-objects
returns-in-Some-clause-objects c = if_ok c.solved.result _ _ (λ a s. c.in_ok-of_objects.ensures.objects) c.solved.ensures.solved

pub returns-in-Some-clause-skeletons : goal.returns-in-Some-clause-skeletons
returns-in-Some-clause-skeletons c =
    let es = c.args.signature.now in
    let A = term_of c.args.query.now.goal in
    let found = rw c.in-Some.is at c.in_ok-walk.ensures in
    if_ok c.solved.result _ _ (λ a s. solved_once (λ x. IsFreeIn es x [] A) (λ f p. FitsQuery es f p A) (state_of c.in-Some.walk) found _ _ s) c.solved.ensures.solved

pub returns-in-Some-clause-refused : goal.returns-in-Some-clause-refused
returns-in-Some-clause-refused c =
    let found = rw c.in-Some.is at c.in_ok-walk.ensures in
    if_err c.solved.result _ _ (query_open c.args.signature.now (state_of c.in-Some.walk) (term_of c.args.query.now.goal) (c.in_ok-of_objects.ensures.objects.known, c.in_ok-of_objects.ensures.within) c.in_ok-of_objects.ensures.objects found) c.solved.ensures.open
