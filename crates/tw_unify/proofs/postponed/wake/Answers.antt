use Rattle.std.proofs.Common.{◌≡◌, [], ◌∷◌, Err, refl, sym, ap, ◌∙◌, subst, ◌<◌, length, rules}
use Rattle.std.specs.Option.{MatchOption}
use Rattle.lf.specs.Entries.{signature_of}
use Rattle.lf.proofs.Entries.{canonical_is_signature}
use Rattle.lf_unification.specs.ReachedRuns.{ReachedRun}
use Rattle.tw_metas.specs.State.{State, Story, without_equation}
use Rattle.tw_metas.specs.View.{equation_of}
use Rattle.tw_unify.specs.Sides.{AllLeft}
use Rattle.tw_putting.specs.Whole.{IsConsistent, whole}
use Rattle.tw_putting.proofs.Changes.{consistent_without_equation}
use Rattle.tw_unify.specs.Watching.{KeepsBindings, Watches, diary_of}
use Rattle.tw_unify.proofs.Postponing.{explains_some, place_within, wake_runs}
use Rattle.tw_unify.proofs.Stories.{later_changed}
use Rattle.tw_unify.proofs.Watching.{can_go_over, watched_length}
use Rattle.tw_unify.proofs.postponed.wake.Goals as goal

pub find_awake-requires-clause-over : goal.find_awake-requires-clause-over
find_awake-requires-clause-over c =
    can_go_over (signature_of c.args.signature.now) (canonical_is_signature c.args.signature.now c.requires.canonical) c.args.store.now.now c.requires.ready

pub find_awake-requires-clause-watches : goal.find_awake-requires-clause-watches
find_awake-requires-clause-watches c = c.requires.watches

pub returns-in_err-find_awake-clause-woken : goal.returns-in_err-find_awake-clause-woken
returns-in_err-find_awake-clause-woken c =
    let f = c.in_err-find_awake.field-0.0 in
    let e : c.from_residual.result ≡ Err f = search rules in
    rw e (explains_some (signature_of c.args.signature.now) f c.args.store.now.now c.in_err-find_awake.ensures.found)

pub returns-in_ok-settle-in-Some-clause-woken : goal.returns-in_ok-settle-in-Some-clause-woken
returns-in_ok-settle-in-Some-clause-woken c =
    let s = c.args.store.now.now in
    let items = c.equations.result.now in
    let d = equation_of c.in_ok-equation-in-Some.equation in
    let found : c.in-Some.at < length s.equations = subst (λ o. MatchOption o (AllLeft s s.equations) (λ at. at < length s.equations)) c.in-Some.is c.in_ok-find_awake.ensures.found in
    let within : c.in-Some.at < length items = place_within items s.equations c.in-Some.at c.equations.ensures found in
    subst (λ (t : State). ReachedRun (signature_of c.args.signature.now) (whole [] s) (whole (d ∷ []) t)) (sym (ap (λ (x : Story). x.now) c.in_ok-settle-in-Some.ensures.ok))
    (wake_runs (signature_of c.args.signature.now) s items c.in-Some.at c.index-equations-at.result d c.equations.ensures within c.index-equations-at.is (c.in_ok-equation-in-Some.ensures ∙ ap equation_of c.deref.ensures))

pub returns-in_ok-settle-in-Some-clause-consistent : goal.returns-in_ok-settle-in-Some-clause-consistent
returns-in_ok-settle-in-Some-clause-consistent c =
    subst IsConsistent (sym (ap (λ (x : Story). x.now) c.in_ok-settle-in-Some.ensures.ok)) (consistent_without_equation c.args.store.now.now c.in-Some.at c.requires.ready.consistent)

pub returns-in_ok-settle-in-Some-clause-story : goal.returns-in_ok-settle-in-Some-clause-story
returns-in_ok-settle-in-Some-clause-story c = later_changed c.args.store.now c.settle.new.self (without_equation c.args.store.now.now c.in-Some.at) c.in_ok-settle-in-Some.ensures.ok

pub forget-requires : goal.forget-requires
forget-requires c =
    let s = c.args.store.now.now in
    let found : c.in-Some.at < length s.equations = subst (λ o. MatchOption o (AllLeft s s.equations) (λ at. at < length s.equations)) c.in-Some.is c.in_ok-find_awake.ensures.found in
    subst (λ n. c.in-Some.at < n) (sym (watched_length s (diary_of c.find_awake.new.watch) c.in_ok-find_awake.ensures.watches)) found

pub returns-in_ok-settle-in-Some-clause-watches : goal.returns-in_ok-settle-in-Some-clause-watches
returns-in_ok-settle-in-Some-clause-watches c =
    let s = c.args.store.now.now in
    subst (λ (t : State). Watches t (diary_of c.forget.new.self)) (sym (ap (λ (x : Story). x.now) c.in_ok-settle-in-Some.ensures.ok)) (c.forget.ensures s c.in_ok-find_awake.ensures.watches)

pub returns-in_ok-settle-in-Some-clause-keeps : goal.returns-in_ok-settle-in-Some-clause-keeps
returns-in_ok-settle-in-Some-clause-keeps c =
    let s = c.args.store.now.now in
    subst (λ (t : State). KeepsBindings s t) (sym (ap (λ (x : Story). x.now) c.in_ok-settle-in-Some.ensures.ok)) (refl, refl)
