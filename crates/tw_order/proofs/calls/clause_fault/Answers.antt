use Rattle.std.proofs.Common.{◌≡◌, ◌+◌, ◌∙◌, suc, ap, arith, map, subst}
use Rattle.lf.specs.Entries.{signature_of}
use Rattle.lf_checks.specs.Descent.{CallDescends}
use Rattle.lf_checks.specs.OrderFaults.{GroupCallPasses, OrderFault as PlainFault}
use Rattle.tw_terms.specs.View.{type_of}
use Rattle.tw_order.specs.Goals.{goals_of}
use Rattle.tw_order.specs.Listing.{clause_in}
use Rattle.tw_order.specs.Rows.{families_of, orders_by}
use Rattle.tw_order.proofs.Calling.{goal_typed}
use Rattle.tw_order.proofs.Deciding.{not_so}
use Rattle.tw_order.proofs.Faults.{all_next, all_there, found_there, member_there, taken_there}
use Rattle.tw_order.proofs.Solving.{each_passes, first_subgoal}
use Rattle.tw_order.proofs.calls.clause_fault.Goals as goal

pub passes-requires-clause-goal : goal.passes-requires-clause-goal
passes-requires-clause-goal c =
    let cl = clause_in c.args.clause.now in
    let xs = c.deref-goal-items.result.now in
    goal_typed (signature_of c.args.sig.now) cl (type_of c.goal-item.result) c.requires (member_there type_of xs (goals_of cl.type) (ap (map type_of) c.deref-goal-items.ensures.value ∙ c.in_ok-goals.ensures) c.loop-place.place c.goal-item.result (omega arith) c.goal-item.is)

pub returns-then-not-branch : goal.returns-then-not-branch
returns-then-not-branch c = λ W q.
    let cl = clause_in c.args.clause.now in
    let xs = c.deref-goal-items.result.now in
    let e = ap (map type_of) c.deref-goal-items.ensures.value ∙ c.in_ok-goals.ensures in
    let k = c.loop-place.place in
    let D = CallDescends (signature_of c.args.sig.now) W (orders_by c.args.group.now) (families_of c.args.group.now) in
    let F = families_of c.args.group.now in
    let P = GroupCallPasses D F cl in
    let n : suc k ≡ k + 1 = omega arith in
    subst (PlainFault D F cl) n (first_subgoal cl P k (type_of c.goal-item.result) (found_there type_of xs (goals_of cl.type) e k c.goal-item.result (omega arith) c.goal-item.is) (λ B m. c.loop-place.invariant W q B (taken_there type_of xs (goals_of cl.type) e k B m)) (not_so c.in_ok-passes.field-0 c.if-not-branch.true (c.in_ok-passes.ensures W q)))

pub loop-place-preserved : goal.loop-place-preserved
loop-place-preserved c = λ W q.
    let cl = clause_in c.args.clause.now in
    let xs = c.deref-goal-items.result.now in
    let e = ap (map type_of) c.deref-goal-items.ensures.value ∙ c.in_ok-goals.ensures in
    let P = GroupCallPasses (CallDescends (signature_of c.args.sig.now) W (orders_by c.args.group.now) (families_of c.args.group.now)) (families_of c.args.group.now) cl in
    all_next type_of xs (goals_of cl.type) e P c.loop-place.place c.goal-item.result (omega arith) c.goal-item.is (c.loop-place.invariant W q) ((c.in_ok-passes.ensures W q).0 c.if-not-branch.false)

pub returns : goal.returns
returns c = λ W q.
    let cl = clause_in c.args.clause.now in
    let xs = c.deref-goal-items.result.now in
    let e = ap (map type_of) c.deref-goal-items.ensures.value ∙ c.in_ok-goals.ensures in
    let P = GroupCallPasses (CallDescends (signature_of c.args.sig.now) W (orders_by c.args.group.now) (families_of c.args.group.now)) (families_of c.args.group.now) cl in
    each_passes cl P (all_there type_of xs (goals_of cl.type) e P c.loop-place.place (omega arith) (c.loop-place.invariant W q))
