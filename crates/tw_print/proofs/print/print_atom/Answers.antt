use Rattle.std.proofs.Common.{◌≡◌, [], reverse, rules, ap, sym, subst}
use Rattle.lf.specs.Entries.{signature_of}
use Rattle.lf.specs.Syntax.{atom}
use Rattle.tw_print.specs.Due.{AllFit, stacked}
use Rattle.tw_print.specs.SceneView.{scene_in}
use Rattle.tw_print.specs.Shown as layout
use Rattle.tw_print.specs.Showable.{IsShowableContext, IsShowableType}
use Rattle.tw_print.proofs.Dues.{begun_alone}
use Rattle.tw_print.proofs.Printing.{on_ok}
use Rattle.tw_print.proofs.print.print_atom.Goals as goal

pub begin_atom-requires-clause-typed : goal.begin_atom-requires-clause-typed
begin_atom-requires-clause-typed c = subst (λ S. IsShowableType (signature_of (scene_in c.args.scene.now).entries) c.args.page.now.context (atom c.args.family.0 S)) (sym c.in_ok-copy.ensures) c.requires.typed

pub begin_atom-requires-clause-fits : goal.begin_atom-requires-clause-fits
begin_atom-requires-clause-fits c =
    let z : c.new-due.result.items ≡ [] = search rules in
    let e : stacked c.new-due.result.items ≡ [] = ap reverse z in
    subst (AllFit (signature_of (scene_in c.args.scene.now).entries) c.args.page.now.context) (sym e) tt

pub write_due-requires-clause-context : goal.write_due-requires-clause-context
write_due-requires-clause-context c = subst (IsShowableContext (signature_of (scene_in c.args.scene.now).entries)) (sym c.in_ok-begin_atom.ensures.context) c.requires.context

pub write_due-requires-clause-fits : goal.write_due-requires-clause-fits
write_due-requires-clause-fits c =
    let b = c.in_ok-begin_atom.ensures in
    subst (λ D. AllFit (signature_of (scene_in c.args.scene.now).entries) D (stacked c.begin_atom.new.due.items)) (sym b.context) b.fits

pub returns : goal.returns
returns c =
    let s = scene_in c.args.scene.now in
    let z : c.new-due.result.items ≡ [] = search rules in
    let e : stacked c.new-due.result.items ≡ [] = ap reverse z in
    on_ok c.write_due.result _ _
    (λ g. begun_alone s c.args.page.now c.begin_atom.new.page c.write_due.new.page _ _ (stacked c.new-due.result.items) (stacked c.begin_atom.new.due.items) e c.in_ok-begin_atom.ensures (ap (layout.atom_pieces (layout.parts s c.args.inner) s c.args.page.now.context c.args.page.now.scope c.args.family.0) c.in_ok-copy.ensures) g)
    c.write_due.ensures
