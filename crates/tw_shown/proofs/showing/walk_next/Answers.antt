use Rattle.std.proofs.Common.{◌∷◌, refl, sym, subst}
use Rattle.lf.specs.Entries.{signature_of}
use Rattle.tw_print.specs.ShowEnv.{scene_of}
use Rattle.tw_shown.specs.Due.{AllFit, Goes, stacked}
use Rattle.tw_shown.specs.declared.due.Due.{Due}
use Rattle.tw_shown.proofs.Dues.{goes_begun, goes_in, goes_out}
use Rattle.tw_shown.proofs.Walking.{on_ok}
use Rattle.tw_shown.proofs.showing.walk_next.Goals as goal

pub returns-in-Enter : goal.returns-in-Enter
returns-in-Enter c =
    let s = scene_of c.args.env.now in
    let old = stacked c.args.due.now.items in
    let p = c.args.walk.now in
    on_ok c.enter.result _ _
    (λ w. subst (λ d. Goes s p c.enter.new.self (d ∷ old) old) (sym c.in-Enter.is) (goes_in s p c.enter.new.self c.in-Enter.ty old w (subst (λ d. AllFit (signature_of s.entries) p.context (d ∷ old)) c.in-Enter.is c.requires.fits) c.requires.context))
    c.enter.ensures

pub returns-in-Leave : goal.returns-in-Leave
returns-in-Leave c =
    let s = scene_of c.args.env.now in
    let old = stacked c.args.due.now.items in
    let p = c.args.walk.now in
    subst (λ d. Goes s p c.leave.new.self (d ∷ old) old) (sym c.in-Leave.is) (goes_out s p c.leave.new.self old c.leave.ensures.shown c.leave.ensures.context c.leave.ensures.binders (subst (λ d. AllFit (signature_of s.entries) p.context (d ∷ old)) c.in-Leave.is c.requires.fits) c.requires.context)

pub begin_term-requires-clause-typed : goal.begin_term-requires-clause-typed
begin_term-requires-clause-typed c = (subst (λ d. AllFit (signature_of c.args.env.now.sig.now) c.args.walk.now.context (d ∷ stacked c.args.due.now.items)) c.in-Term.is c.requires.fits).0

pub begin_term-requires-clause-fits : goal.begin_term-requires-clause-fits
begin_term-requires-clause-fits c = (subst (λ d. AllFit (signature_of c.args.env.now.sig.now) c.args.walk.now.context (d ∷ stacked c.args.due.now.items)) c.in-Term.is c.requires.fits).1

pub returns-in-Term : goal.returns-in-Term
returns-in-Term c =
    let s = scene_of c.args.env.now in
    let old = stacked c.args.due.now.items in
    let p = c.args.walk.now in
    on_ok c.begin_term.result _ _
    (λ b. subst (λ d. Goes s p c.begin_term.new.walk (d ∷ old) (stacked c.begin_term.new.due.items)) (sym c.in-Term.is) (goes_begun s p c.begin_term.new.walk (Due.Term c.in-Term.term c.in-Term.ty c.in-Term.levels) _ old (stacked c.begin_term.new.due.items) b refl refl refl c.requires.context))
    c.begin_term.ensures

pub begin_type-requires-clause-typed : goal.begin_type-requires-clause-typed
begin_type-requires-clause-typed c = (subst (λ d. AllFit (signature_of c.args.env.now.sig.now) c.args.walk.now.context (d ∷ stacked c.args.due.now.items)) c.in-Type.is c.requires.fits).0

pub begin_type-requires-clause-fits : goal.begin_type-requires-clause-fits
begin_type-requires-clause-fits c = (subst (λ d. AllFit (signature_of c.args.env.now.sig.now) c.args.walk.now.context (d ∷ stacked c.args.due.now.items)) c.in-Type.is c.requires.fits).1

pub returns-in-Type : goal.returns-in-Type
returns-in-Type c =
    let s = scene_of c.args.env.now in
    let old = stacked c.args.due.now.items in
    let p = c.args.walk.now in
    on_ok c.begin_type.result _ _
    (λ b. subst (λ d. Goes s p p (d ∷ old) (stacked c.begin_type.new.due.items)) (sym c.in-Type.is) (goes_begun s p p (Due.Type c.in-Type.ty c.in-Type.levels) _ old (stacked c.begin_type.new.due.items) b refl refl refl c.requires.context))
    c.begin_type.ensures
