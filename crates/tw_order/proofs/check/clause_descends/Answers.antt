use Rattle.std.proofs.Common.{subst, sym}
use Rattle.lf.specs.Entries.{signature_of}
use Rattle.lf_checks.specs.Descent.{CallDescends}
use Rattle.lf_checks.specs.Faults.{here}
use Rattle.lf_checks.specs.OrderFaults.{ClauseDescends, OrderFault as PlainFault}
use Rattle.tw_order.specs.Calls.{Outcome}
use Rattle.tw_order.specs.Listing.{clause_in}
use Rattle.tw_order.specs.Rows.{families_of, orders_by}
use Rattle.tw_order.proofs.check.clause_descends.Goals as goal

pub returns-in_ok-copy-in-Some : goal.returns-in_ok-copy-in-Some
returns-in_ok-copy-in-Some c = λ W q.
    let D = CallDescends (signature_of c.args.sig.now) W (orders_by c.args.group.now) (families_of c.args.group.now) in
    let F = families_of c.args.group.now in
    let cl = clause_in c.args.clause.now in
    here (sym c.in_ok-copy-in-Some.ensures) (subst (Outcome (ClauseDescends D F cl) (PlainFault D F cl)) c.in-Some.is (c.in_ok-subgoal.ensures W q))

pub returns-in-None : goal.returns-in-None
returns-in-None c = λ W q.
    let D = CallDescends (signature_of c.args.sig.now) W (orders_by c.args.group.now) (families_of c.args.group.now) in
    let F = families_of c.args.group.now in
    let cl = clause_in c.args.clause.now in
    (subst (Outcome (ClauseDescends D F cl) (PlainFault D F cl)) c.in-None.is (c.in_ok-subgoal.ensures W q), tt)
