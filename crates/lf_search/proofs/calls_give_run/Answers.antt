use Rattle.lf_search.proofs.Calls.{after_answer, after_budget, after_deep, after_end, after_left_over}
use Rattle.lf_search.proofs.calls_give_run.Goals as goal

pub returns : goal.returns
returns c = λ es limit G q budget leaves tries left agenda r w. (
  after_answer es limit G q budget leaves tries left agenda r w,
  after_left_over es limit G q budget leaves tries left agenda r w,
  λ bound f more after. (after_end es limit G q budget leaves tries left agenda r w bound f more after, after_budget es limit G q budget leaves tries left agenda r w bound f more after, after_deep es limit G q budget leaves tries left agenda r w bound f more after),
)
