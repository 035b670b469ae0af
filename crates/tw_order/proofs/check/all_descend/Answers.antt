use Rattle.std.proofs.Common.{◌≡◌, ◌+◌, ◌∙◌, [], ◌∷◌, Err, Ok, ap, arith, drop, map, refl, rules, subst, sym}
use Rattle.std.proofs.Math.ListN.{drop_of_length-le}
use Rattle.lf.specs.Entries.{signature_of}
use Rattle.lf_checks.specs.Descent.{CallDescends}
use Rattle.tw_order.specs.Listing.{named_of}
use Rattle.tw_order.specs.Outcomes.{ListOutcome}
use Rattle.tw_order.specs.Rows.{families_of, orders_by}
use Rattle.tw_order.proofs.Collecting.{drop_get}
use Rattle.tw_order.proofs.Faults.{member_there, outcome_ends, outcome_goes_on}
use Rattle.tw_order.proofs.check.all_descend.Goals as goal

pub clause_descends-requires : goal.clause_descends-requires
clause_descends-requires c =
    let xs = c.args.listed.now in
    c.requires (named_of c.clause-item.result) (member_there named_of xs (map named_of xs) refl c.loop-clause.clause-index c.clause-item.result (omega arith) c.clause-item.is)

pub returns-in_err-clause_descends : goal.returns-in_err-clause_descends
returns-in_err-clause_descends c = λ W q.
    let xs = c.args.listed.now in
    let k = c.loop-clause.clause-index in
    let x = c.clause-item.result in
    let F = families_of c.args.group.now in
    let D = CallDescends (signature_of c.args.sig.now) W (orders_by c.args.group.now) F in
    let f = c.in_err-clause_descends.field-0.0 in
    let e : c.from_residual.result ≡ Err f = search rules in
    let n = drop_get xs k x (omega arith) ∙ ap (λ y. y ∷ drop (k + 1) xs) (sym c.clause-item.is) in
    subst (ListOutcome D F (map named_of xs)) (sym e) (c.loop-clause.invariant W q (Err f) (subst (λ ys. ListOutcome D F (map named_of ys) (Err f)) (sym n) (outcome_ends D F (named_of x ∷ []) (map named_of (drop (k + 1) xs)) f (c.in_err-clause_descends.ensures W q))))

pub loop-clause-preserved : goal.loop-clause-preserved
loop-clause-preserved c = λ W q r h.
    let xs = c.args.listed.now in
    let k = c.loop-clause.clause-index in
    let x = c.clause-item.result in
    let F = families_of c.args.group.now in
    let D = CallDescends (signature_of c.args.sig.now) W (orders_by c.args.group.now) F in
    let n = drop_get xs k x (omega arith) ∙ ap (λ y. y ∷ drop (k + 1) xs) (sym c.clause-item.is) in
    c.loop-clause.invariant W q r (subst (λ ys. ListOutcome D F (map named_of ys) r) (sym n) (outcome_goes_on D F (named_of x ∷ []) (map named_of (drop (k + 1) xs)) tt r (c.in_ok-clause_descends.ensures W q) h))

pub returns : goal.returns
returns c = λ W q.
    let xs = c.args.listed.now in
    let F = families_of c.args.group.now in
    let D = CallDescends (signature_of c.args.sig.now) W (orders_by c.args.group.now) F in
    c.loop-clause.invariant W q (Ok tt) (subst (λ ys. ListOutcome D F (map named_of ys) (Ok tt)) (sym (drop_of_length-le xs (omega arith))) tt)
