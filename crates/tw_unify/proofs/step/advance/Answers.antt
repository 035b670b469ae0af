use Rattle.std.proofs.Common.{arith, ◌≡◌, ◌∷◌, Err, rules, subst}
use Rattle.std.specs.Bool.{OnTrue}
use Rattle.lf.specs.Entries.{signature_of}
use Rattle.lf.proofs.Entries.{canonical_is_signature}
use Rattle.tw_metas.specs.View.{equation_of}
use Rattle.tw_putting.specs.Whole.{whole}
use Rattle.tw_putting.proofs.Readiness.{ready_after}
use Rattle.tw_unify.specs.Outcomes.{Advances, Explains, stacked}
use Rattle.tw_unify.specs.Sides.{BecomeApart}
use Rattle.tw_unify.proofs.Endings.{explains_after}
use Rattle.tw_terms.proofs.OpenArgs.{open_types}
use Rattle.tw_unify.proofs.FlexibleMoves.{equal_runs}
use Rattle.tw_unify.proofs.Fitting.{can_take, ready_first}
use Rattle.tw_unify.proofs.Results.{match_both}
use Rattle.tw_unify.proofs.Working.{advances_after, become_apart, explains_unfolding, unfold_runs}
use Rattle.tw_unify.proofs.step.advance.Goals as goal

pub unfold_sides-requires : goal.unfold_sides-requires
unfold_sides-requires c =
    let Σ = signature_of c.args.signature.now in
    let s = c.args.store.now.now in
    let e = equation_of c.args.equation in
    can_take Σ s e (ready_first Σ e (stacked c.args.work.now.items) s c.requires.ready)

pub returns-in_err-unfolded-clause-done : goal.returns-in_err-unfolded-clause-done
returns-in_err-unfolded-clause-done c =
    let f = c.in_err-unfolded.field-0.0 in
    let r : c.from_residual.result ≡ Err f = search rules in
    rw r (explains_unfolding (signature_of c.args.signature.now) c.args.store.now.now f (equation_of c.args.equation) (stacked c.args.work.now.items) c.in_err-unfolded.ensures)

pub make_steps-requires-clause-ready : goal.make_steps-requires-clause-ready
make_steps-requires-clause-ready c =
    let Σ = signature_of c.args.signature.now in
    let s = c.args.store.now.now in
    let e = equation_of c.args.equation in
    let f = equation_of c.in_ok-unfolded.unfolded in
    let es = stacked c.args.work.now.items in
    ready_after Σ (canonical_is_signature c.args.signature.now c.requires.canonical) (e ∷ es) (f ∷ es) s s c.requires.ready (unfold_runs Σ s e f es c.in_ok-unfolded.ensures).run c.requires.ready.consistent

pub make_steps-requires-clause-stay : goal.make_steps-requires-clause-stay
make_steps-requires-clause-stay c = c.in_ok-unfolded.ensures.stay

pub returns-clause-done : goal.returns-clause-done
returns-clause-done c =
    let Σ = signature_of c.args.signature.now in
    let s = c.args.store.now.now in
    let e = equation_of c.args.equation in
    let f = equation_of c.in_ok-unfolded.unfolded in
    let es = stacked c.args.work.now.items in
    let t = whole (stacked c.make_steps.new.work.items) c.make_steps.new.store.now in
    let p = unfold_runs Σ s e f es c.in_ok-unfolded.ensures in
    match_both c.make_steps.result (λ a. Advances a Σ (whole (f ∷ es) s) t) (λ a. Advances a Σ (whole (e ∷ es) s) t) (λ x. Explains x Σ (whole (f ∷ es) s)) (λ x. Explains x Σ (whole (e ∷ es) s))
    (λ a. advances_after Σ a (whole (e ∷ es) s) (whole (f ∷ es) s) t p) (λ x. explains_after Σ x (whole (e ∷ es) s) (whole (f ∷ es) s) p) c.make_steps.ensures.done

pub are_apart-requires : goal.are_apart-requires
are_apart-requires c =
    let Σ = signature_of c.args.signature.now in
    let s = c.args.store.now.now in
    let e = equation_of c.args.equation in
    can_take Σ s e (ready_first Σ e (stacked c.args.work.now.items) s c.requires.ready)

pub returns-then-are_apart-clause-done : goal.returns-then-are_apart-clause-done
returns-then-are_apart-clause-done c =
    let s = c.args.store.now.now in
    let e = equation_of c.args.equation in
    become_apart (signature_of c.args.signature.now) s e (stacked c.args.work.now.items) (subst (λ b. OnTrue b (BecomeApart s e)) c.if-are_apart.true c.are_apart.ensures)

pub returns-then-same-clause-done : goal.returns-then-same-clause-done
returns-then-same-clause-done c =
    let e = equation_of c.args.equation in
    let same : e.left ≡ e.right = grind (arith, open_types) in
    equal_runs (signature_of c.args.signature.now) c.args.store.now.now e (stacked c.args.work.now.items) same
