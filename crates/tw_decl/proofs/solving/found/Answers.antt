use Rattle.std.proofs.Common.{ap, sym, ◌∙◌, subst}
use Rattle.std.proofs.lemmas.Result.{IfErr-weaker, IfOk-weaker}
use Rattle.lf_search.specs.Bounded as bounded
use Rattle.tw_parse.specs.Queries.{Query, query_of}
use Rattle.tw_signature.specs.Goal.{goal_of}
use Rattle.tw_signature.specs.View.{entry_of}
use Rattle.tw_decl.specs.Searching.{IsAsked, first_answer}
use Rattle.tw_decl.specs.Solutions.{IsFound}
use Rattle.tw_decl.specs.Unanswered.{IsNotSolved}
use Rattle.tw_decl.proofs.Runs.{first_is_answer, run_answers}
use Rattle.tw_decl.proofs.Searched.{solve_deep, solve_none, solve_not_run}
use Rattle.tw_decl.proofs.Solved.{both, names_proof}
use Rattle.tw_decl.proofs.solving.found.Goals as goal

pub returns-in-Err-run-clause-cause : goal.returns-in-Err-run-clause-cause
returns-in-Err-run-clause-cause c =
    let v = c.args.session.now in
    let q = query_of c.args.query.now in
    let g = goal_of c.in-Ok.goal in
    solve_not_run v c.args.name q.goal c.args.first g (subst (λ (x : Query). IsAsked v.signature x g) (names_proof c.args.name q c.requires) c.in-Ok.ensures.asked) c.in-Err-run.refusal c.in-Err-run.ensures.cause

pub solved-requires-clause-answer : goal.solved-requires-clause-answer
solved-requires-clause-answer c =
    let v = c.args.session.now in
    let g = goal_of c.in-Ok.goal in
    let r = c.in-Ok-run.run' in
    first_is_answer v.signature g r.leaves.items c.in-Some.answer.now (run_answers v.signature g (bounded.number 1) v.parameters.steps r.leaves.items r.end r.tries c.in-Ok-run.ensures.run)
    (sym (ap first_answer c.deref.ensures.value) ∙ sym c.in-Some.ensures)

pub returns-in-Some-clause-ok : goal.returns-in-Some-clause-ok
returns-in-Some-clause-ok c =
    let v = c.args.session.now in
    let q = query_of c.args.query.now in
    let g = goal_of c.in-Ok.goal in
    let r = c.in-Ok-run.run' in
    let asked = subst (λ (x : Query). IsAsked v.signature x g) (names_proof c.args.name q c.requires) c.in-Ok.ensures.asked in
    let first = sym (ap first_answer c.deref.ensures.value) ∙ sym c.in-Some.ensures in
    IfOk-weaker c.solved.result _ (λ e. IsFound v c.args.name q.goal (entry_of e))
    (λ e h. record {
      goal = g;
      leaves = r.leaves.items;
      end = r.end;
      tries = r.tries;
      runs = record { asked = asked; run = c.in-Ok-run.ensures.run };
      answer = c.in-Some.answer.now;
      is_first = first;
      solution = h.0;
      stands = h.1;
    }) (both c.solved.result _ _ c.solved.ensures.solution c.solved.ensures.stands)

pub returns-in-Some-clause-cause : goal.returns-in-Some-clause-cause
returns-in-Some-clause-cause c =
    let v = c.args.session.now in
    let q = query_of c.args.query.now in
    let g = goal_of c.in-Ok.goal in
    let r = c.in-Ok-run.run' in
    let asked = subst (λ (x : Query). IsAsked v.signature x g) (names_proof c.args.name q c.requires) c.in-Ok.ensures.asked in
    let first = sym (ap first_answer c.deref.ensures.value) ∙ sym c.in-Some.ensures in
    IfErr-weaker c.solved.result _ (IsNotSolved v c.args.name q.goal c.args.first)
    (solve_deep v c.args.name q.goal c.args.first g asked r.leaves.items r.end r.tries c.in-Ok-run.ensures.run c.in-Some.answer.now first) c.solved.ensures.cause

pub returns-in-None-clause-cause : goal.returns-in-None-clause-cause
returns-in-None-clause-cause c =
    let v = c.args.session.now in
    let q = query_of c.args.query.now in
    let g = goal_of c.in-Ok.goal in
    let r = c.in-Ok-run.run' in
    let asked = subst (λ (x : Query). IsAsked v.signature x g) (names_proof c.args.name q c.requires) c.in-Ok.ensures.asked in
    let none = sym (ap first_answer c.deref.ensures.value) ∙ sym c.in-None.ensures in
    solve_none v c.args.name q.goal c.args.first g asked r.leaves.items r.end r.tries c.in-Ok-run.ensures.run none c.unsolved.result c.unsolved.ensures
