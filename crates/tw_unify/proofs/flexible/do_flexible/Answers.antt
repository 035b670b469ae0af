use Rattle.std.proofs.Common.{◌∷◌, List, sym, ap, subst}
use Rattle.lf_unification.specs.ReachedRuns.{ReachedRun}
use Rattle.lf_unification.specs.Unifiers as unifiers
use Rattle.tw_metas.specs.State.{State, Story, with_equation}
use Rattle.tw_metas.specs.View.{equation_of}
use Rattle.tw_unify.specs.Flexible.{IsNext, pruned_state}
use Rattle.tw_unify.specs.Moving.{NeedsRenewal}
use Rattle.tw_unify.specs.Outcomes.{stacked}
use Rattle.tw_putting.specs.Whole.{IsConsistent, whole}
use Rattle.tw_putting.proofs.Changes.{consistent_with_equation, is_unbound}
use Rattle.tw_unify.proofs.FlexibleMoves.{equal_runs, postpone_runs, renew_runs}
use Rattle.tw_unify.proofs.Changed.{binds_pruned}
use Rattle.tw_unify.proofs.Stories.{later_changed}
use Rattle.tw_unify.proofs.Working.{reached_first}
use Rattle.tw_unify.proofs.flexible.do_flexible.Goals as goal

pub returns-in-Drop-clause-done : goal.returns-in-Drop-clause-done
returns-in-Drop-clause-done c = λ Σ.
    let e = equation_of c.args.equation in
    equal_runs Σ c.args.store.now.now e (stacked c.args.work.now.items) (subst (IsNext c.args.store.now.now e.local e.left e.right) c.in-Drop.is c.in_ok-next.ensures)

pub returns-in_ok-postpone-in-Outside-clause-done : goal.returns-in_ok-postpone-in-Outside-clause-done
returns-in_ok-postpone-in-Outside-clause-done c = λ Σ.
    let s = c.args.store.now.now in
    let e = equation_of c.args.equation in
    let es = stacked c.args.work.now.items in
    subst (λ (t : State). ReachedRun Σ (whole (e ∷ es) s) (whole es t)) (sym (ap (λ (x : Story). x.now) c.in_ok-postpone-in-Outside.ensures.ok)) (postpone_runs Σ s e es)

pub returns-in_ok-postpone-in-Outside-clause-consistent : goal.returns-in_ok-postpone-in-Outside-clause-consistent
returns-in_ok-postpone-in-Outside-clause-consistent c =
    subst IsConsistent (sym (ap (λ (x : Story). x.now) c.in_ok-postpone-in-Outside.ensures.ok)) (consistent_with_equation c.args.store.now.now (equation_of c.args.equation) c.requires.fits.sides.consistent)

pub returns-in_ok-postpone-in-Outside-clause-story : goal.returns-in_ok-postpone-in-Outside-clause-story
returns-in_ok-postpone-in-Outside-clause-story c = later_changed c.args.store.now c.postpone.new.self (with_equation c.args.store.now.now (equation_of c.args.equation)) c.in_ok-postpone-in-Outside.ensures.ok

pub renew-requires-clause-unbound : goal.renew-requires-clause-unbound
renew-requires-clause-unbound c =
    let s = c.args.store.now.now in
    let e = equation_of c.args.equation in
    let n : NeedsRenewal s c.in-Renew.meta.0 = (subst (IsNext s e.local e.left e.right) c.in-Renew.is c.in_ok-next.ensures).0 in
    is_unbound s c.requires.fits.sides.consistent c.in-Renew.meta.0 n.of_type n.declared n.unbound

pub returns-in_ok-put_back-in-Renew-clause-done : goal.returns-in_ok-put_back-in-Renew-clause-done
returns-in_ok-put_back-in-Renew-clause-done c = λ Σ.
    let s = c.args.store.now.now in
    let e = equation_of c.args.equation in
    let es = stacked c.args.work.now.items in
    let needs = subst (IsNext s e.local e.left e.right) c.in-Renew.is c.in_ok-next.ensures in
    let r = c.in_ok-renew-in-Renew.ensures.done in
    let ran : ReachedRun Σ (whole (e ∷ es) s) (whole (e ∷ es) (pruned_state s c.in-Renew.meta.0 r.ty r.spine)) = renew_runs Σ s (e ∷ es) c.in-Renew.meta.0 r.ty r.spine c.requires.fits.sides.consistent c.requires.fits.scoped needs.0 r.renewal (reached_first s e es c.in-Renew.meta.0 needs.1) in
    let there : ReachedRun Σ (whole (e ∷ es) s) (whole (e ∷ es) c.renew.new.store.now) = subst (λ (t : State). ReachedRun Σ (whole (e ∷ es) s) (whole (e ∷ es) t)) (sym r.is) ran in
    subst (λ (fs : List unifiers.Equation). ReachedRun Σ (whole (e ∷ es) s) (whole fs c.renew.new.store.now)) (sym c.in_ok-put_back-in-Renew.ensures) there

pub returns-in_ok-postpone-in-Outside-clause-change : goal.returns-in_ok-postpone-in-Outside-clause-change
returns-in_ok-postpone-in-Outside-clause-change c = (equation_of c.args.equation, ap (λ (x : Story). x.now) c.in_ok-postpone-in-Outside.ensures.ok)

pub returns-in_ok-put_back-in-Renew-clause-change : goal.returns-in_ok-put_back-in-Renew-clause-change
returns-in_ok-put_back-in-Renew-clause-change c =
    let s = c.args.store.now.now in
    let e = equation_of c.args.equation in
    let n : NeedsRenewal s c.in-Renew.meta.0 = (subst (IsNext s e.local e.left e.right) c.in-Renew.is c.in_ok-next.ensures).0 in
    let r = c.in_ok-renew-in-Renew.ensures.done in
    binds_pruned s c.requires.fits.sides.consistent c.in-Renew.meta r.ty r.spine (is_unbound s c.requires.fits.sides.consistent c.in-Renew.meta.0 n.of_type n.declared n.unbound) c.renew.new.store.now r.is
