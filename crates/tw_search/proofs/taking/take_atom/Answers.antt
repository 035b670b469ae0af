use Rattle.std.proofs.Common.{◌≡◌, ap, ap₂, length, sym, ◌∙◌}
use Rattle.lf.specs.Syntax.{metavariable, nil, root}
use Rattle.lf_unification.specs.Offering.{pi_over, raised}
use Rattle.tw_metas.specs.State.{Story, with_declared}
use Rattle.tw_terms.specs.OpenView.{open_args_of, open_type_of}
use Rattle.tw_terms.specs.declared.open_terms.OpenHead.TheVariants.{Meta}
use Rattle.tw_terms.specs.declared.open_terms.OpenSpine.{roll-OpenSpine}
use Rattle.tw_terms.proofs.OpenViews.{open_head_of-Meta, open_spine_of-roll, open_term_of-Root}
use Rattle.tw_open.proofs.NewTerms.{declares_fresh, declares_same, one_more_made}
use Rattle.tw_search.proofs.NewTerms.{stands_alone}
use Rattle.tw_search.proofs.taking.take_atom.Goals as goal

pub returns-in_err-meta-clause-keeps : goal.returns-in_err-meta-clause-keeps
returns-in_err-meta-clause-keeps c = declares_same c.args.store.now c.fresh.new.self c.in_err-meta.ensures.err

pub returns-clause-ok : goal.returns-clause-ok
returns-clause-ok c =
    let A = open_type_of c.args.ty in
    let D = c.args.locals.now in
    let s = c.args.store.now.now in
    let t = c.fresh.new.self.now in
    let e : t ≡ with_declared s c.new.result A = ap (λ (x : Story). x.now) c.in_ok-meta.ensures.ok in
    let p : A ≡ pi_over D A = sym (ap (λ E. pi_over E A) c.requires.none) in
    let alone : raised D A (length s.declared) ≡ root (metavariable (length s.declared)) nil = stands_alone D A (length s.declared) c.requires.none c.requires.atom in
    let number : c.in_ok-meta.meta.0 ≡ length s.declared = c.in_ok-meta.ensures.number in
    let m = c.in_ok-meta.meta in
    let v = c.new-2.result in
    record {
      state = λ es. one_more_made s t es D c.new.result A A e p;
      term = open_term_of-Root (Meta m) (roll-OpenSpine (record { args = v })) ∙ ap₂ root (open_head_of-Meta m ∙ ap metavariable number) (open_spine_of-roll v ∙ ap open_args_of c.new-2.ensures.items) ∙ sym alone;
    }

pub returns-clause-keeps : goal.returns-clause-keeps
returns-clause-keeps c = declares_fresh c.args.store.now c.fresh.new.self c.new.result (open_type_of c.args.ty) c.new.ensures c.in_ok-meta.ensures.ok
