use Rattle.std.proofs.Common.{◌≡◌, ◌∷◌, refl, sym, ap, subst}
use Rattle.lf_unification.specs.ReachedRuns.{ReachedRun}
use Rattle.tw_metas.specs.State.{State, Story, with_value}
use Rattle.tw_metas.specs.View.{equation_of}
use Rattle.tw_metas.specs.declared.equation.Equation.{Equation as RustEquation}
use Rattle.tw_terms.specs.OpenView.{open_term_of}
use Rattle.tw_terms.specs.declared.canonical.MetaId.{MetaId}
use Rattle.tw_putting.specs.Stores.{bindings_of, types_of}
use Rattle.tw_putting.specs.Whole.{IsConsistent, whole}
use Rattle.tw_putting.proofs.Changes.{consistent_with_value}
use Rattle.tw_unify.specs.Flexible.{AllowsMove, TakenIsMet, TakesWhole}
use Rattle.tw_unify.specs.Reaching.{IsClosed}
use Rattle.tw_unify.specs.declared.moves.Move.TheVariants.{Bind}
use Rattle.tw_unify.specs.declared.whole.Taker.{Taker}
use Rattle.tw_unify.specs.declared.whole.Taker.TheVariants.{Left, Right}
use Rattle.tw_unify.proofs.FlexibleMoves.{bind_runs, bound_unbound}
use Rattle.tw_unify.proofs.Changed.{binds_value, closed_value}
use Rattle.tw_unify.proofs.Stories.{later_changed}
use Rattle.tw_unify.proofs.whole.take_whole.Goals as goal

allows_left : (s : State) (e : RustEquation) (t : Taker) (m : MetaId) → t ≡ Left m → TakesWhole s (equation_of e) t → AllowsMove s (equation_of e) (Bind m e.right)
allows_left s e t m is h = subst (TakesWhole s (equation_of e)) is h e.right refl

allows_right : (s : State) (e : RustEquation) (t : Taker) (m : MetaId) → t ≡ Right m → TakesWhole s (equation_of e) t → AllowsMove s (equation_of e) (Bind m e.left)
allows_right s e t m is h = subst (TakesWhole s (equation_of e)) is h e.left refl

pub bind-requires : goal.bind-requires
bind-requires c =
    let s = c.args.store.now.now in
    let a = allows_left s c.args.equation c.args.taker c.in-Left.meta c.in-Left.is c.requires.takes in
    bound_unbound a.move.fits.signature s (equation_of c.args.equation) c.in-Left.meta c.args.equation.right a

pub returns-in_ok-bind-in-Left-clause-done : goal.returns-in_ok-bind-in-Left-clause-done
returns-in_ok-bind-in-Left-clause-done c = λ Σ es.
    let s = c.args.store.now.now in
    let e = equation_of c.args.equation in
    let a = allows_left s c.args.equation c.args.taker c.in-Left.meta c.in-Left.is c.requires.takes in
    subst (λ (t : State). ReachedRun Σ (whole (e ∷ es) s) (whole es t)) (sym (ap (λ (x : Story). x.now) c.in_ok-bind-in-Left.ensures.ok)) (bind_runs Σ s e es c.in-Left.meta c.args.equation.right a)

pub returns-in_ok-bind-in-Left-clause-consistent : goal.returns-in_ok-bind-in-Left-clause-consistent
returns-in_ok-bind-in-Left-clause-consistent c =
    let s = c.args.store.now.now in
    let a = allows_left s c.args.equation c.args.taker c.in-Left.meta c.in-Left.is c.requires.takes in
    subst IsConsistent (sym (ap (λ (x : Story). x.now) c.in_ok-bind-in-Left.ensures.ok))
    (consistent_with_value s c.requires.consistent c.in-Left.meta.0 (open_term_of c.args.equation.right) (bound_unbound a.move.fits.signature s (equation_of c.args.equation) c.in-Left.meta c.args.equation.right a))

pub returns-in_ok-bind-in-Left-clause-story : goal.returns-in_ok-bind-in-Left-clause-story
returns-in_ok-bind-in-Left-clause-story c = later_changed c.args.store.now c.bind.new.self (with_value c.args.store.now.now c.in-Left.meta.0 (open_term_of c.args.equation.right)) c.in_ok-bind-in-Left.ensures.ok

pub bind-requires-in-Right : goal.bind-requires-in-Right
bind-requires-in-Right c =
    let s = c.args.store.now.now in
    let a = allows_right s c.args.equation c.args.taker c.in-Right.meta c.in-Right.is c.requires.takes in
    bound_unbound a.move.fits.signature s (equation_of c.args.equation) c.in-Right.meta c.args.equation.left a

pub returns-in_ok-bind-in-Right-clause-done : goal.returns-in_ok-bind-in-Right-clause-done
returns-in_ok-bind-in-Right-clause-done c = λ Σ es.
    let s = c.args.store.now.now in
    let e = equation_of c.args.equation in
    let a = allows_right s c.args.equation c.args.taker c.in-Right.meta c.in-Right.is c.requires.takes in
    subst (λ (t : State). ReachedRun Σ (whole (e ∷ es) s) (whole es t)) (sym (ap (λ (x : Story). x.now) c.in_ok-bind-in-Right.ensures.ok)) (bind_runs Σ s e es c.in-Right.meta c.args.equation.left a)

pub returns-in_ok-bind-in-Right-clause-consistent : goal.returns-in_ok-bind-in-Right-clause-consistent
returns-in_ok-bind-in-Right-clause-consistent c =
    let s = c.args.store.now.now in
    let a = allows_right s c.args.equation c.args.taker c.in-Right.meta c.in-Right.is c.requires.takes in
    subst IsConsistent (sym (ap (λ (x : Story). x.now) c.in_ok-bind-in-Right.ensures.ok))
    (consistent_with_value s c.requires.consistent c.in-Right.meta.0 (open_term_of c.args.equation.left) (bound_unbound a.move.fits.signature s (equation_of c.args.equation) c.in-Right.meta c.args.equation.left a))

pub returns-in_ok-bind-in-Right-clause-story : goal.returns-in_ok-bind-in-Right-clause-story
returns-in_ok-bind-in-Right-clause-story c = later_changed c.args.store.now c.bind-in-Right.new.self (with_value c.args.store.now.now c.in-Right.meta.0 (open_term_of c.args.equation.left)) c.in_ok-bind-in-Right.ensures.ok

pub returns-in_ok-bind-in-Left-clause-bound : goal.returns-in_ok-bind-in-Left-clause-bound
returns-in_ok-bind-in-Left-clause-bound c =
    let s = c.args.store.now.now in
    let a = allows_left s c.args.equation c.args.taker c.in-Left.meta c.in-Left.is c.requires.takes in
    binds_value s c.requires.consistent c.in-Left.meta (open_term_of c.args.equation.right) (bound_unbound a.move.fits.signature s (equation_of c.args.equation) c.in-Left.meta c.args.equation.right a)
    c.bind.new.self.now (ap (λ (x : Story). x.now) c.in_ok-bind-in-Left.ensures.ok)

pub returns-in_ok-bind-in-Right-clause-bound : goal.returns-in_ok-bind-in-Right-clause-bound
returns-in_ok-bind-in-Right-clause-bound c =
    let s = c.args.store.now.now in
    let a = allows_right s c.args.equation c.args.taker c.in-Right.meta c.in-Right.is c.requires.takes in
    binds_value s c.requires.consistent c.in-Right.meta (open_term_of c.args.equation.left) (bound_unbound a.move.fits.signature s (equation_of c.args.equation) c.in-Right.meta c.args.equation.left a)
    c.bind-in-Right.new.self.now (ap (λ (x : Story). x.now) c.in_ok-bind-in-Right.ensures.ok)

pub returns-in_ok-bind-in-Left-clause-closed : goal.returns-in_ok-bind-in-Left-clause-closed
returns-in_ok-bind-in-Left-clause-closed c = λ w k i.
    let s = c.args.store.now.now in
    let e = equation_of c.args.equation in
    let a = allows_left s c.args.equation c.args.taker c.in-Left.meta c.in-Left.is c.requires.takes in
    subst (λ (t : State). IsClosed (types_of t) (bindings_of t) w) (sym (ap (λ (x : Story). x.now) c.in_ok-bind-in-Left.ensures.ok))
    (closed_value s c.requires.consistent c.in-Left.meta.0 (open_term_of c.args.equation.right) (bound_unbound a.move.fits.signature s e c.in-Left.meta c.args.equation.right a) w k (subst (TakenIsMet w e) c.in-Left.is i))

pub returns-in_ok-bind-in-Right-clause-closed : goal.returns-in_ok-bind-in-Right-clause-closed
returns-in_ok-bind-in-Right-clause-closed c = λ w k i.
    let s = c.args.store.now.now in
    let e = equation_of c.args.equation in
    let a = allows_right s c.args.equation c.args.taker c.in-Right.meta c.in-Right.is c.requires.takes in
    subst (λ (t : State). IsClosed (types_of t) (bindings_of t) w) (sym (ap (λ (x : Story). x.now) c.in_ok-bind-in-Right.ensures.ok))
    (closed_value s c.requires.consistent c.in-Right.meta.0 (open_term_of c.args.equation.left) (bound_unbound a.move.fits.signature s e c.in-Right.meta c.args.equation.left a) w k (subst (TakenIsMet w e) c.in-Right.is i))
