use Rattle.std.proofs.Common.{option_map, rules, refl, ap, ap₂, ◌∙◌, sym, subst}
use Rattle.std.proofs.lemmas.List.{append-nil}
use Rattle.lf.specs.Entries.{signature_of}
use Rattle.tw_terms.specs.View.{term_of, type_of}
use Rattle.tw_print.specs.Due.{AllFit, context_after, pieces_due, scope_after, stacked}
use Rattle.tw_print.specs.SceneView.{scene_in}
use Rattle.tw_print.specs.Shown as layout
use Rattle.tw_print.specs.Showable.{IsShowable}
use Rattle.tw_print.proofs.Dues.{all_written, alone}
use Rattle.tw_print.proofs.Printing.{on_ok}
use Rattle.tw_print.proofs.print.print_term.Goals as goal

pub write_due-requires-clause-fits : goal.write_due-requires-clause-fits
write_due-requires-clause-fits c =
    let e = alone c.new-due.result.items (stacked c.new-due.result.items) (stacked c.push.new.due.items) _ (search rules) refl c.in_ok-push.ensures in
    subst (AllFit (signature_of (scene_in c.args.scene.now).entries) c.args.page.now.context) (sym e) (
      subst (λ M. IsShowable (signature_of (scene_in c.args.scene.now).entries) c.args.page.now.context M (option_map type_of c.in_ok-ty.ty)) (sym c.in_ok-copy.ensures)
          (subst (IsShowable (signature_of (scene_in c.args.scene.now).entries) c.args.page.now.context (term_of c.args.term.now)) (sym c.in_ok-ty.ensures) c.requires.typed),
      tt,
    )

pub returns : goal.returns
returns c =
    let s = scene_in c.args.scene.now in
    let G = c.args.page.now.context in
    let ns = c.args.page.now.scope in
    let e = alone c.new-due.result.items (stacked c.new-due.result.items) (stacked c.push.new.due.items) _ (search rules) refl c.in_ok-push.ensures in
    on_ok c.write_due.result _ _
    (λ g. all_written s c.args.page.now c.write_due.new.page ((layout.parts s c.args.levels).term G ns (term_of c.args.term.now) _) (stacked c.push.new.due.items) g
    (ap (λ ds. pieces_due s ds G ns) e ∙ append-nil _ ∙ ap₂ ((layout.parts s c.args.levels).term G ns) c.in_ok-copy.ensures c.in_ok-ty.ensures)
    (ap (λ ds. context_after ds G) e) (ap (λ ds. scope_after ds ns) e))
    c.write_due.ensures
