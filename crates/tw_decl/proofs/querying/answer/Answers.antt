use Rattle.std.proofs.Common.{subst}
use Rattle.lf_search.specs.Bounded.{Bound}
use Rattle.tw_parse.specs.Queries.{query_of}
use Rattle.tw_query.specs.Runs.{IsRunOf}
use Rattle.tw_query.specs.View.{bound_of as plain_bound}
use Rattle.tw_signature.specs.Goal.{goal_of}
use Rattle.tw_decl.specs.Unanswered.{HasNoRun}
use Rattle.tw_decl.proofs.Runs.{incomplete_left, run_answers}
use Rattle.tw_decl.proofs.Searched.{answer_not_run, answer_unexpected}
use Rattle.tw_decl.proofs.querying.answer.Goals as goal

pub returns-in-Err-run-clause-cause : goal.returns-in-Err-run-clause-cause
returns-in-Err-run-clause-cause c =
    let v = c.args.session.now in
    let g = goal_of c.in-Ok.goal in
    answer_not_run v c.args.expected c.args.sought (query_of c.args.query.now) c.args.first g c.in-Ok.ensures.asked c.in-Err-run.refusal
    (subst (λ (b : Bound). HasNoRun v g b c.args.first c.in-Err-run.refusal) c.bound.ensures c.in-Err-run.ensures.cause)

pub counted-requires : goal.counted-requires
counted-requires c =
    let v = c.args.session.now in
    let r = c.in-Ok-run.run' in
    incomplete_left v.signature (goal_of c.in-Ok.goal) (plain_bound c.bound.result) v.parameters.steps r.leaves.items r.end r.tries c.in-Ok-run.ensures.run

pub returns-in-Err-counted-clause-cause : goal.returns-in-Err-counted-clause-cause
returns-in-Err-counted-clause-cause c =
    let v = c.args.session.now in
    let g = goal_of c.in-Ok.goal in
    let r = c.in-Ok-run.run' in
    answer_unexpected v c.args.expected c.args.sought (query_of c.args.query.now) c.args.first g c.in-Ok.ensures.asked r.leaves.items r.end r.tries
    (subst (λ (b : Bound). IsRunOf v.signature g b v.parameters.steps r.leaves.items r.end r.tries) c.bound.ensures c.in-Ok-run.ensures.run) c.in-Err-counted.refusal c.in-Err-counted.ensures.cause

pub report-requires-clause-answers : goal.report-requires-clause-answers
report-requires-clause-answers c =
    let v = c.args.session.now in
    let r = c.in-Ok-run.run' in
    run_answers v.signature (goal_of c.in-Ok.goal) (plain_bound c.bound.result) v.parameters.steps r.leaves.items r.end r.tries c.in-Ok-run.ensures.run
