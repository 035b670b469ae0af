use Rattle.std.proofs.Common.{◌∷◌, List, sym, subst}
use Rattle.lf.specs.Entries.{signature_of}
use Rattle.lf_unification.specs.ReachedRuns.{ReachedRun}
use Rattle.lf_unification.specs.Unifiers as unifiers
use Rattle.tw_metas.specs.View.{equation_of}
use Rattle.tw_unify.specs.Outcomes.{stacked}
use Rattle.tw_putting.specs.Whole.{whole}
use Rattle.tw_unify.proofs.Orders.{none_made}
use Rattle.tw_unify.proofs.Stories.{stacked_push}
use Rattle.tw_unify.proofs.solving.next_equation.Goals as goal

pub returns-in-Some-clause-next : goal.returns-in-Some-clause-next
returns-in-Some-clause-next c =
    let s = c.args.store.now.now in
    let e = equation_of c.in-Some.equation in
    let es = stacked c.pop.new.self.items in
    subst (λ (fs : List unifiers.Equation). ReachedRun (signature_of c.args.signature.now) (whole fs s) (whole (e ∷ es) s)) (sym (stacked_push c.pop.new.self.items c.args.work.now.items c.in-Some.equation c.in-Some.ensures.items)) (none_made (signature_of c.args.signature.now))
