use Rattle.std.proofs.Common.{◌≡◌, ◌∷◌, Err, subst, rules}
use Rattle.std.specs.Option.{IfSome}
use Rattle.lf.specs.Entries.{signature_of}
use Rattle.lf.specs.Typing.{Signature}
use Rattle.lf.proofs.Entries.{canonical_is_signature}
use Rattle.tw_metas.specs.View.{equation_of}
use Rattle.tw_putting.specs.Whole.{whole}
use Rattle.tw_putting.proofs.Readiness.{ready_after, types_take}
use Rattle.tw_unify.specs.Flexible.{AllowsMove, BlamesReached}
use Rattle.tw_unify.specs.Outcomes.{Advances, Explains, stacked}
use Rattle.tw_unify.proofs.Endings.{explains_after}
use Rattle.tw_unify.proofs.Fitting.{can_take, ready_first}
use Rattle.tw_unify.proofs.Results.{match_both}
use Rattle.tw_unify.proofs.Working.{advances_after, both_heads, explains_reached, explains_sides, flexible_fits, move_fits, put_runs}
use Rattle.tw_unify.proofs.step.at_patterns.Goals as goal

pub move_at_once-requires : goal.move_at_once-requires
move_at_once-requires c = both_heads (signature_of c.args.signature.now) c.args.store.now.now (equation_of c.args.equation) (stacked c.args.work.now.items) c.requires.flexible c.requires.ready c.requires.stay

pub make_move-requires : goal.make_move-requires
make_move-requires c =
    let s = c.args.store.now.now in
    let e = equation_of c.args.equation in
    move_fits (signature_of c.args.signature.now) s e (stacked c.args.work.now.items) c.in-Some.found c.requires.ready
    (subst (λ o. IfSome o (λ v. AllowsMove s e v)) c.in-Some.is c.in_ok-found.ensures)

pub put_both-requires-clause-fits : goal.put_both-requires-clause-fits
put_both-requires-clause-fits c =
    let Σ = signature_of c.args.signature.now in
    let s = c.args.store.now.now in
    let e = equation_of c.args.equation in
    can_take Σ s e (ready_first Σ e (stacked c.args.work.now.items) s c.requires.ready)

pub returns-in_err-put-in-None-clause-done : goal.returns-in_err-put-in-None-clause-done
returns-in_err-put-in-None-clause-done c =
    let f = c.in_err-put-in-None.field-0.0 in
    let r : c.from_residual-in_err-put-in-None.result ≡ Err f = search rules in
    rw r (explains_sides (signature_of c.args.signature.now) f c.args.store.now.now (equation_of c.args.equation) (stacked c.args.work.now.items) c.in_err-put-in-None.ensures)

pub do_flexible-requires-clause-fits : goal.do_flexible-requires-clause-fits
do_flexible-requires-clause-fits c =
    let Σ = signature_of c.args.signature.now in
    let s = c.args.store.now.now in
    let e = equation_of c.args.equation in
    let f = equation_of c.in_ok-put-in-None.put in
    let es = stacked c.args.work.now.items in
    flexible_fits Σ s e f es c.requires.flexible c.requires.ready c.in_ok-put-in-None.ensures
    (ready_after Σ (canonical_is_signature c.args.signature.now c.requires.canonical) (e ∷ es) (f ∷ es) s s c.requires.ready (put_runs Σ s e f es c.in_ok-put-in-None.ensures).run c.requires.ready.consistent)

pub do_flexible-requires-clause-types : goal.do_flexible-requires-clause-types
do_flexible-requires-clause-types c = types_take (signature_of c.args.signature.now) (equation_of c.args.equation ∷ stacked c.args.work.now.items) c.args.store.now.now c.requires.ready

pub returns-in_ok-put-in-None-clause-done : goal.returns-in_ok-put-in-None-clause-done
returns-in_ok-put-in-None-clause-done c =
    let Σ = signature_of c.args.signature.now in
    let s = c.args.store.now.now in
    let e = equation_of c.args.equation in
    let f = equation_of c.in_ok-put-in-None.put in
    let es = stacked c.args.work.now.items in
    let t = whole (stacked c.do_flexible.new.work.items) c.do_flexible.new.store.now in
    let p = put_runs Σ s e f es c.in_ok-put-in-None.ensures in
    match_both c.do_flexible.result (λ a. (Ω : Signature) → Advances a Ω (whole (f ∷ es) s) t) (λ a. Advances a Σ (whole (e ∷ es) s) t) (λ x. BlamesReached x s f.left f.right) (λ x. Explains x Σ (whole (e ∷ es) s))
    (λ a g. advances_after Σ a (whole (e ∷ es) s) (whole (f ∷ es) s) t p (g Σ)) (λ x b. explains_after Σ x (whole (e ∷ es) s) (whole (f ∷ es) s) p (explains_reached Σ s x f es b)) c.do_flexible.ensures.done
