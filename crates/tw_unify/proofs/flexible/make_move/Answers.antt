use Rattle.std.proofs.Common.{◌∷◌, List, sym, ap, subst}
use Rattle.lf_unification.specs.ReachedRuns.{ReachedRun}
use Rattle.lf_unification.specs.Unifiers as unifiers
use Rattle.tw_metas.specs.State.{State, Story, with_value}
use Rattle.tw_metas.specs.View.{equation_of}
use Rattle.tw_terms.specs.OpenView.{open_spine_of, open_term_of, open_type_of}
use Rattle.tw_unify.specs.Flexible.{AllowsMove, pruned_state}
use Rattle.tw_unify.specs.Outcomes.{stacked}
use Rattle.tw_putting.specs.Whole.{IsConsistent, whole}
use Rattle.tw_putting.proofs.Changes.{consistent_with_value}
use Rattle.tw_unify.proofs.FlexibleMoves.{bind_runs, bound_unbound, lose_runs, lost_unbound, refutes}
use Rattle.tw_unify.proofs.Changed.{binds_pruned, binds_value}
use Rattle.tw_unify.proofs.Stories.{later_changed}
use Rattle.tw_unify.proofs.flexible.make_move.Goals as goal

pub bind-requires : goal.bind-requires
bind-requires c =
    let s = c.args.store.now.now in
    let e = equation_of c.args.equation in
    bound_unbound c.requires.allows.move.fits.signature s e c.in-Bind.meta c.in-Bind.value (subst (AllowsMove s e) c.in-Bind.is c.requires.allows)

pub lose-requires-clause-unbound : goal.lose-requires-clause-unbound
lose-requires-clause-unbound c =
    let s = c.args.store.now.now in
    let e = equation_of c.args.equation in
    lost_unbound c.requires.allows.move.fits.signature s e c.in-Lose.meta c.in-Lose.pruned (subst (AllowsMove s e) c.in-Lose.is c.requires.allows)

pub returns-in_ok-bind-in-Bind-clause-done : goal.returns-in_ok-bind-in-Bind-clause-done
returns-in_ok-bind-in-Bind-clause-done c = λ Σ.
    let s = c.args.store.now.now in
    let e = equation_of c.args.equation in
    let es = stacked c.args.work.now.items in
    subst (λ (t : State). ReachedRun Σ (whole (e ∷ es) s) (whole es t)) (sym (ap (λ (x : Story). x.now) c.in_ok-bind-in-Bind.ensures.ok))
    (bind_runs Σ s e es c.in-Bind.meta c.in-Bind.value (subst (AllowsMove s e) c.in-Bind.is c.requires.allows))

pub returns-in_ok-bind-in-Bind-clause-consistent : goal.returns-in_ok-bind-in-Bind-clause-consistent
returns-in_ok-bind-in-Bind-clause-consistent c =
    let s = c.args.store.now.now in
    let e = equation_of c.args.equation in
    subst IsConsistent (sym (ap (λ (x : Story). x.now) c.in_ok-bind-in-Bind.ensures.ok))
    (consistent_with_value s c.requires.consistent c.in-Bind.meta.0 (open_term_of c.in-Bind.value) (bound_unbound c.requires.allows.move.fits.signature s e c.in-Bind.meta c.in-Bind.value (subst (AllowsMove s e) c.in-Bind.is c.requires.allows)))

pub returns-in_ok-bind-in-Bind-clause-story : goal.returns-in_ok-bind-in-Bind-clause-story
returns-in_ok-bind-in-Bind-clause-story c = later_changed c.args.store.now c.bind.new.self (with_value c.args.store.now.now c.in-Bind.meta.0 (open_term_of c.in-Bind.value)) c.in_ok-bind-in-Bind.ensures.ok

pub returns-in_ok-put_back-in-Lose-clause-done : goal.returns-in_ok-put_back-in-Lose-clause-done
returns-in_ok-put_back-in-Lose-clause-done c = λ Σ.
    let s = c.args.store.now.now in
    let e = equation_of c.args.equation in
    let es = stacked c.args.work.now.items in
    let Y = open_type_of c.in-Lose.pruned.ty in
    let S = open_spine_of c.in-Lose.pruned.spine in
    let ran : ReachedRun Σ (whole (e ∷ es) s) (whole (e ∷ es) (pruned_state s c.in-Lose.meta.0 Y S)) =
    lose_runs Σ s e es c.in-Lose.meta c.in-Lose.pruned c.requires.scoped (subst (AllowsMove s e) c.in-Lose.is c.requires.allows) in
    let there : ReachedRun Σ (whole (e ∷ es) s) (whole (e ∷ es) c.lose.new.store.now) = subst (λ (t : State). ReachedRun Σ (whole (e ∷ es) s) (whole (e ∷ es) t)) (sym c.in_ok-lose-in-Lose.ensures.done) ran in
    subst (λ (fs : List unifiers.Equation). ReachedRun Σ (whole (e ∷ es) s) (whole fs c.lose.new.store.now)) (sym c.in_ok-put_back-in-Lose.ensures) there

pub returns-in-Refute-clause-done : goal.returns-in-Refute-clause-done
returns-in-Refute-clause-done c = λ Σ.
    let s = c.args.store.now.now in
    let e = equation_of c.args.equation in
    refutes Σ s e (stacked c.args.work.now.items) (subst (AllowsMove s e) c.in-Refute.is c.requires.allows)

pub returns-in_ok-bind-in-Bind-clause-change : goal.returns-in_ok-bind-in-Bind-clause-change
returns-in_ok-bind-in-Bind-clause-change c =
    let s = c.args.store.now.now in
    let e = equation_of c.args.equation in
    binds_value s c.requires.consistent c.in-Bind.meta (open_term_of c.in-Bind.value) (bound_unbound c.requires.allows.move.fits.signature s e c.in-Bind.meta c.in-Bind.value (subst (AllowsMove s e) c.in-Bind.is c.requires.allows))
    c.bind.new.self.now (ap (λ (x : Story). x.now) c.in_ok-bind-in-Bind.ensures.ok)

pub returns-in_ok-put_back-in-Lose-clause-change : goal.returns-in_ok-put_back-in-Lose-clause-change
returns-in_ok-put_back-in-Lose-clause-change c =
    let s = c.args.store.now.now in
    let e = equation_of c.args.equation in
    binds_pruned s c.requires.consistent c.in-Lose.meta (open_type_of c.in-Lose.pruned.ty) (open_spine_of c.in-Lose.pruned.spine)
    (lost_unbound c.requires.allows.move.fits.signature s e c.in-Lose.meta c.in-Lose.pruned (subst (AllowsMove s e) c.in-Lose.is c.requires.allows)) c.lose.new.store.now c.in_ok-lose-in-Lose.ensures.done
