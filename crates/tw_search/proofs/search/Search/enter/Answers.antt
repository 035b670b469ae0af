use Rattle.std.proofs.Common.{ℕ, option_map, refl, ap₂}
use Rattle.std.proofs.lemmas.Result.{IfOk-weaker, on_err_weaker}
use Rattle.tw_search.specs.Going.{GivesOut, Goes, GoesUp, step_of}
use Rattle.tw_search.specs.declared.step.Choice.{Choice}
use Rattle.tw_search.proofs.Going.{gives_out_taken, goal_taken, goes_taken}
use Rattle.tw_search.proofs.Leaving.{at_list}
use Rattle.tw_search.proofs.Standing.{gave_at_once, on_err_all}
use Rattle.tw_search.proofs.search.Search.enter.Goals as goal

pub take_up-requires-clause-up : goal.take_up-requires-clause-up
take_up-requires-clause-up c =
    let old = c.args.self.now in
    let es = c.args.signature.now in
    let (agenda, w) = c.requires.at in
    let made = λ (m n : ℕ). let x : Choice = record { mark = m; frames = n; goal = c.in_ok-goal.goal; rest = c.args.frame.next; local = 0; constant = 0 } in x in
    goal_taken es old c.args.list agenda (at_list es old c.args.list agenda c.requires.place w) c.args.frame c.requires.first c.in_ok-goal.goal c.in_ok-goal.ensures (made c.mark.result c.len.result) (ap₂ made c.mark.ensures c.len.ensures) w.1

pub returns-clause-goes : goal.returns-clause-goes
returns-clause-goes c =
    let old = c.args.self.now in
    let new = c.take_up.new.self in
    let es = c.args.signature.now in
    let made = λ (m n : ℕ). let x : Choice = record { mark = m; frames = n; goal = c.in_ok-goal.goal; rest = c.args.frame.next; local = 0; constant = 0 } in x in
    IfOk-weaker c.take_up.result (λ o. GoesUp es c.args.last _ new (made c.mark.result c.len.result) (option_map step_of o)) (λ o. Goes es c.args.last old new (option_map step_of o))
    (λ o up agenda w. goes_taken es old c.args.list agenda (at_list es old c.args.list agenda c.requires.place w) c.args.frame c.requires.first c.in_ok-goal.goal c.in_ok-goal.ensures _ (ap₂ made c.mark.ensures c.len.ensures) w.1 c.args.last new (option_map step_of o) up)
    c.take_up.ensures.goes

pub returns-clause-gave_out : goal.returns-clause-gave_out
returns-clause-gave_out c =
    let old = c.args.self.now in
    let new = c.take_up.new.self in
    let es = c.args.signature.now in
    let made = λ (m n : ℕ). let x : Choice = record { mark = m; frames = n; goal = c.in_ok-goal.goal; rest = c.args.frame.next; local = 0; constant = 0 } in x in
    on_err_weaker c.take_up.result
    (λ gave agenda w. gives_out_taken es old c.args.list agenda (at_list es old c.args.list agenda c.requires.place w) c.args.frame c.requires.first c.in_ok-goal.goal c.in_ok-goal.ensures _ (ap₂ made c.mark.ensures c.len.ensures) w.1 c.args.last new gave)
    c.take_up.ensures.gave_out

pub returns-in_err-goal-clause-gave_out : goal.returns-in_err-goal-clause-gave_out
returns-in_err-goal-clause-gave_out c =
    on_err_all {P = GivesOut c.args.signature.now c.args.last c.args.self.now c.args.self.now} _ (λ agenda w. gave_at_once c.args.signature.now c.args.self.now c.args.self.now agenda c.args.last refl c.requires.within)
