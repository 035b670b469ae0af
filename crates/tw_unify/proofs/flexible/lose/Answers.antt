use Rattle.std.proofs.Common.{◌≡◌, ◌∙◌, sym, ap, subst, arith}
use Rattle.lf.specs.Syntax.{metavariable, root}
use Rattle.tw_metas.specs.State.{IsUnbound, State, Story, with_declared, with_value}
use Rattle.tw_terms.specs.OpenView.{open_spine_of, open_term_of, open_type_of}
use Rattle.tw_terms.proofs.OpenArgs.{open_types}
use Rattle.lf_unification.specs.OpenTyping.{Declares, skeletons_of}
use Rattle.lf_unification.specs.Patterns.{lambdas_of}
use Rattle.tw_putting.specs.Stores.{types_of}
use Rattle.tw_putting.specs.Whole.{IsConsistent}
use Rattle.tw_putting.proofs.Changes.{consistent_with_declared, consistent_with_value, still_unbound}
use Rattle.tw_unify.proofs.Renewals.{unbound_declares}
use Rattle.tw_unify.proofs.Stories.{later_changed, later_then, pruned_by}
use Rattle.tw_unify.proofs.flexible.lose.Goals as goal

pub returns-in_err-value-clause-consistent : goal.returns-in_err-value-clause-consistent
returns-in_err-value-clause-consistent c =
    let s = c.args.store.now.now in
    subst IsConsistent (sym (ap (λ (x : Story). x.now) c.in_ok-new.ensures.ok)) (consistent_with_declared s c.new.result (open_type_of c.args.pruned.ty) c.requires.consistent)

pub returns-in_err-value-clause-story : goal.returns-in_err-value-clause-story
returns-in_err-value-clause-story c = later_changed c.args.store.now c.fresh.new.self (with_declared c.args.store.now.now c.new.result (open_type_of c.args.pruned.ty)) c.in_ok-new.ensures.ok

pub value_over-requires : goal.value_over-requires
value_over-requires c =
    let s = c.args.store.now.now in
    let A = open_type_of c.args.pruned.ty in
    subst (λ (t : State). Declares (types_of t) c.args.meta.0) (sym (ap (λ (x : Story). x.now) c.in_ok-new.ensures.ok))
    (unbound_declares (with_declared s c.new.result A) (consistent_with_declared s c.new.result A c.requires.consistent) c.args.meta.0 (still_unbound s c.new.result A c.args.meta.0 c.requires.unbound))

pub bind-requires : goal.bind-requires
bind-requires c =
    subst (λ (t : State). IsUnbound t c.args.meta.0) (sym (ap (λ (x : Story). x.now) c.in_ok-new.ensures.ok))
    (still_unbound c.args.store.now.now c.new.result (open_type_of c.args.pruned.ty) c.args.meta.0 c.requires.unbound)

pub returns-in_err-bind-clause-consistent : goal.returns-in_err-bind-clause-consistent
returns-in_err-bind-clause-consistent c =
    subst IsConsistent (sym (ap (λ (x : Story). x.now) (c.in_err-bind.ensures.err ∙ c.in_ok-new.ensures.ok))) (consistent_with_declared c.args.store.now.now c.new.result (open_type_of c.args.pruned.ty) c.requires.consistent)

pub returns-in_err-bind-clause-story : goal.returns-in_err-bind-clause-story
returns-in_err-bind-clause-story c = later_changed c.args.store.now c.bind.new.self (with_declared c.args.store.now.now c.new.result (open_type_of c.args.pruned.ty)) (c.in_err-bind.ensures.err ∙ c.in_ok-new.ensures.ok)

pub returns-clause-done : goal.returns-clause-done
returns-clause-done c =
    let s = c.args.store.now.now in
    let f = c.fresh.new.self.now in
    let m = c.args.meta.0 in
    let n = c.in_ok-new.new.0 in
    let S = open_spine_of c.args.pruned.spine in
    let V = open_term_of c.in_ok-value.value in
    let value : V ≡ lambdas_of (skeletons_of (types_of f) m) (root (metavariable n) S) = grind (arith, open_types) in
    ap (λ (x : Story). x.now) c.in_ok-bind.ensures.ok
    ∙ pruned_by s f m n (open_type_of c.args.pruned.ty) S c.new.result V c.requires.consistent c.requires.unbound c.new.ensures (ap (λ (x : Story). x.now) c.in_ok-new.ensures.ok) c.in_ok-new.ensures.number value

pub returns-clause-consistent : goal.returns-clause-consistent
returns-clause-consistent c =
    let f = c.fresh.new.self.now in
    let held : IsConsistent f = subst IsConsistent (sym (ap (λ (x : Story). x.now) c.in_ok-new.ensures.ok)) (consistent_with_declared c.args.store.now.now c.new.result (open_type_of c.args.pruned.ty) c.requires.consistent) in
    let free : IsUnbound f c.args.meta.0 = subst (λ (t : State). IsUnbound t c.args.meta.0) (sym (ap (λ (x : Story). x.now) c.in_ok-new.ensures.ok))
    (still_unbound c.args.store.now.now c.new.result (open_type_of c.args.pruned.ty) c.args.meta.0 c.requires.unbound) in
    subst IsConsistent (sym (ap (λ (x : Story). x.now) c.in_ok-bind.ensures.ok)) (consistent_with_value f held c.args.meta.0 (open_term_of c.in_ok-value.value) free)

pub returns-clause-story : goal.returns-clause-story
returns-clause-story c =
    later_then c.args.store.now c.fresh.new.self c.bind.new.self
    (later_changed c.args.store.now c.fresh.new.self (with_declared c.args.store.now.now c.new.result (open_type_of c.args.pruned.ty)) c.in_ok-new.ensures.ok)
    (later_changed c.fresh.new.self c.bind.new.self (with_value c.fresh.new.self.now c.args.meta.0 (open_term_of c.in_ok-value.value)) c.in_ok-bind.ensures.ok)
