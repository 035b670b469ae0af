use Rattle.std.proofs.Common.{ap, length, subst, sym, ◌≤◌, ◌∙◌}
use Rattle.lf_search.specs.Bounded.{AsManyAs}
use Rattle.tw_search.specs.Standing.{stands, tries_of}
use Rattle.tw_search.specs.declared.step.Step.TheVariants as step
use Rattle.tw_signature.specs.Goal.{goal_of}
use Rattle.tw_query.specs.Runs.{IsRunOf, end_in}
use Rattle.tw_query.specs.View.{bound_of}
use Rattle.tw_query.proofs.Leaves.{no_more_than_leaves}
use Rattle.tw_query.proofs.Steps.{at_answer, at_bound, at_budget, at_deep, at_end, at_left_over, called, not_reached, still_fewer}
use Rattle.tw_query.proofs.running.Running.step.Goals as goal

pub returns-then-is_reached-clause-goes_on : goal.returns-then-is_reached-clause-goes_on
returns-then-is_reached-clause-goes_on c = at_bound c.args.signature.now (goal_of c.args.goal.now) (bound_of c.args.bound) c.args.budget c.args.self.now c.requires (c.is_reached.ensures.0 c.if-is_reached.true)

pub next-requires-clause-search : goal.next-requires-clause-search
next-requires-clause-search c = stands (goal_of c.args.goal.now) c.requires.nodes c.requires.agenda c.requires.stands

pub add_answer-requires : goal.add_answer-requires
add_answer-requires c = subst (λ k. k ≤ length c.args.self.now.leaves.items) (sym c.requires.count) (no_more_than_leaves c.args.self.now.leaves.items)

pub returns-in_ok-add_answer-in-Answer-clause-goes_on : goal.returns-in_ok-add_answer-in-Answer-clause-goes_on
returns-in_ok-add_answer-in-Answer-clause-goes_on c =
    let es = c.args.signature.now in
    let g = goal_of c.args.goal.now in
    let b = bound_of c.args.bound in
    let n = c.args.budget in
    let old = c.args.self.now in
    let s = c.next.new.self in
    let fewer = still_fewer es g b n old c.requires (not_reached c.is_reached.result (AsManyAs b old.answers) c.if-is_reached.false c.is_reached.ensures) in
    let st = called es g b n old c.requires s c.tries.result c.in_ok-answer.field-0 (step.Answer c.in-Answer.answer) c.tries.ensures c.in-Answer.is c.in_ok-answer.ensures.step in
    at_answer es c.is_canonical.ensures g b n old c.requires fewer s c.in-Answer.answer st c.add_answer.new.self c.in_ok-add_answer-in-Answer.ensures.leaves c.in_ok-add_answer-in-Answer.ensures.answers c.add_answer.ensures.search

pub returns-in-Exhausted-clause-goes_on : goal.returns-in-Exhausted-clause-goes_on
returns-in-Exhausted-clause-goes_on c =
    let es = c.args.signature.now in
    let g = goal_of c.args.goal.now in
    let b = bound_of c.args.bound in
    let n = c.args.budget in
    let old = c.args.self.now in
    let s = c.next.new.self in
    let fewer = still_fewer es g b n old c.requires (not_reached c.is_reached.result (AsManyAs b old.answers) c.if-is_reached.false c.is_reached.ensures) in
    let st = called es g b n old c.requires s c.tries.result c.in_ok-answer.field-0 step.Exhausted c.tries.ensures c.in-Exhausted.is c.in_ok-answer.ensures.step in
    subst (λ e. IsRunOf es g b n old.leaves.items e (tries_of s)) (sym (c.end_of.ensures ∙ ap end_in c.deref.ensures.value)) (at_end es c.is_canonical.ensures g b n old c.requires fewer s st)

pub returns-in-Budget-clause-fault : goal.returns-in-Budget-clause-fault
returns-in-Budget-clause-fault c =
    let es = c.args.signature.now in
    let g = goal_of c.args.goal.now in
    let b = bound_of c.args.bound in
    let n = c.args.budget in
    let old = c.args.self.now in
    let s = c.next.new.self in
    let fewer = still_fewer es g b n old c.requires (not_reached c.is_reached.result (AsManyAs b old.answers) c.if-is_reached.false c.is_reached.ensures) in
    let st = called es g b n old c.requires s c.tries.result c.in_ok-answer.field-0 step.Budget c.tries.ensures c.in-Budget.is c.in_ok-answer.ensures.step in
    at_budget es c.is_canonical.ensures g b n old c.requires fewer s st

pub returns-in-TooDeep-clause-fault : goal.returns-in-TooDeep-clause-fault
returns-in-TooDeep-clause-fault c =
    let es = c.args.signature.now in
    let g = goal_of c.args.goal.now in
    let b = bound_of c.args.bound in
    let n = c.args.budget in
    let old = c.args.self.now in
    let s = c.next.new.self in
    let fewer = still_fewer es g b n old c.requires (not_reached c.is_reached.result (AsManyAs b old.answers) c.if-is_reached.false c.is_reached.ensures) in
    let st = called es g b n old c.requires s c.tries.result c.in_ok-answer.field-0 step.TooDeep c.tries.ensures c.in-TooDeep.is c.in_ok-answer.ensures.step in
    at_deep es c.is_canonical.ensures g b n old c.requires fewer s st

pub returns-in_ok-add-in-Leftover-clause-goes_on : goal.returns-in_ok-add-in-Leftover-clause-goes_on
returns-in_ok-add-in-Leftover-clause-goes_on c =
    let es = c.args.signature.now in
    let g = goal_of c.args.goal.now in
    let b = bound_of c.args.bound in
    let n = c.args.budget in
    let old = c.args.self.now in
    let s = c.next.new.self in
    let fewer = still_fewer es g b n old c.requires (not_reached c.is_reached.result (AsManyAs b old.answers) c.if-is_reached.false c.is_reached.ensures) in
    let st = called es g b n old c.requires s c.tries.result c.in_ok-answer.field-0 (step.Leftover c.in-Leftover.left) c.tries.ensures c.in-Leftover.is c.in_ok-answer.ensures.step in
    at_left_over es c.is_canonical.ensures g b n old c.requires fewer s c.in-Leftover.left st c.add.new.self c.in_ok-add-in-Leftover.ensures.leaves c.add.ensures.answers c.add.ensures.search
