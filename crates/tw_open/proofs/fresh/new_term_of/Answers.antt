use Rattle.std.proofs.Common.{◌≡◌, ap, ap₂, refl, ◌∙◌}
use Rattle.lf.specs.Eta.{eta_expand}
use Rattle.lf.specs.Syntax.{metavariable, skeleton}
use Rattle.lf_unification.specs.Offering.{pi_over}
use Rattle.tw_metas.specs.State.{Story, with_declared}
use Rattle.tw_terms.specs.OpenView.{open_type_of}
use Rattle.tw_terms.proofs.OpenViews.{open_head_of-Meta}
use Rattle.tw_open.proofs.NewTerms.{declares_fresh, declares_same, one_more_made}
use Rattle.tw_open.proofs.fresh.new_term_of.Goals as goal

pub returns-in_err-closed-clause-keeps : goal.returns-in_err-closed-clause-keeps
returns-in_err-closed-clause-keeps c = declares_same c.args.store.now c.args.store.now refl

pub returns-in_err-spine-clause-keeps : goal.returns-in_err-spine-clause-keeps
returns-in_err-spine-clause-keeps c = declares_same c.args.store.now c.args.store.now refl

pub returns-in_err-meta-clause-keeps : goal.returns-in_err-meta-clause-keeps
returns-in_err-meta-clause-keeps c = declares_same c.args.store.now c.fresh.new.self c.in_err-meta.ensures.err

pub returns-in_err-term-clause-keeps : goal.returns-in_err-term-clause-keeps
returns-in_err-term-clause-keeps c = declares_same c.args.store.now c.args.store.now refl

pub returns-clause-ok : goal.returns-clause-ok
returns-clause-ok c =
    let A = open_type_of c.args.ty in
    let D = c.args.locals.now in
    let s = c.args.store.now.now in
    let t = c.fresh.new.self.now in
    let P = open_type_of c.in_ok-closed.closed in
    let p : P ≡ pi_over D A = c.in_ok-closed.ensures in
    let e : t ≡ with_declared s c.new.result P = ap (λ (x : Story). x.now) c.in_ok-meta.ensures.ok in
    record {
      state = λ es. one_more_made s t es D c.new.result A P e p;
      term = c.in_ok-term.ensures ∙ ap₂ (eta_expand (skeleton A)) (open_head_of-Meta _ ∙ ap metavariable c.declared_count.ensures) c.in_ok-spine.ensures;
    }

pub returns-clause-keeps : goal.returns-clause-keeps
returns-clause-keeps c = declares_fresh c.args.store.now c.fresh.new.self c.new.result (open_type_of c.in_ok-closed.closed) c.new.ensures c.in_ok-meta.ensures.ok
