use Rattle.std.proofs.Common.{Some, rules, refl, ap, ap₂, ◌∙◌, sym, subst}
use Rattle.std.proofs.lemmas.List.{append-nil}
use Rattle.lf.specs.Entries.{signature_of}
use Rattle.tw_print.specs.Showable.{IsShowable}
use Rattle.tw_print.specs.ShowEnv.{scene_of}
use Rattle.tw_shown.specs.Due.{AllFit, binders_after, context_after, shown_due, stacked}
use Rattle.tw_shown.specs.Shown.{outside, shown_within}
use Rattle.tw_shown.proofs.Dues.{all_walked, alone}
use Rattle.tw_shown.proofs.Walking.{on_ok}
use Rattle.tw_terms.specs.View.{term_of, type_of}
use Rattle.tw_shown.proofs.showing.walk_term.Goals as goal

pub walk_due-requires-clause-fits : goal.walk_due-requires-clause-fits
walk_due-requires-clause-fits c =
    let Σ = signature_of c.args.env.now.sig.now in
    let G = c.args.walk.now.context in
    let e = alone c.new-due.result.items (stacked c.new-due.result.items) (stacked c.push.new.due.items) _ (search rules) refl c.in_ok-push.ensures in
    subst (AllFit Σ G) (sym e) (
      subst (λ M. IsShowable Σ G M (Some (type_of c.in_ok-ty.ty))) (sym c.in_ok-term.ensures) (subst (λ A. IsShowable Σ G (term_of c.args.term.now) (Some A)) (sym c.in_ok-ty.ensures) c.requires.typed),
      tt,
    )

pub returns : goal.returns
returns c =
    let s = scene_of c.args.env.now in
    let G = c.args.walk.now.context in
    let b = c.args.walk.now.binders in
    let e = alone c.new-due.result.items (stacked c.new-due.result.items) (stacked c.push.new.due.items) _ (search rules) refl c.in_ok-push.ensures in
    on_ok c.walk_due.result _ _
    (λ g. all_walked s c.args.walk.now c.walk_due.new.walk ((shown_within s c.args.levels).term G (term_of c.args.term.now) (Some (type_of c.args.ty.now))) (stacked c.push.new.due.items) g
    (ap (λ ds. shown_due s ds G b) e ∙ append-nil _ ∙ ap₂ (λ M A. outside b ((shown_within s c.args.levels).term G M (Some A))) c.in_ok-term.ensures c.in_ok-ty.ensures)
    (ap (λ ds. context_after ds G) e) (ap (λ ds. binders_after ds b) e))
    c.walk_due.ensures
