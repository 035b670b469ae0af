use Rattle.std.proofs.Common.{◌≡◌, sym, subst, arith}
use Rattle.lf.specs.Entries.{signature_of}
use Rattle.lf.specs.Syntax.{atom}
use Rattle.tw_terms.specs.View.{spine_of, type_of}
use Rattle.tw_terms.proofs.Args.{types}
use Rattle.tw_print.specs.Due.{Begins, stacked}
use Rattle.tw_print.specs.SceneView.{scene_in}
use Rattle.tw_print.specs.Showable.{IsShowableType}
use Rattle.tw_print.specs.Shown as layout
use Rattle.tw_print.proofs.Dues.{type_begun}
use Rattle.tw_print.proofs.Printing.{on_ok}
use Rattle.tw_print.proofs.print.begin_type.Goals as goal

pub begin_atom-requires-clause-typed : goal.begin_atom-requires-clause-typed
begin_atom-requires-clause-typed c =
    let e : type_of c.args.ty ≡ atom c.in-Atom.family.0 (spine_of c.in-Atom.spine) = grind (arith, types) in
    subst (IsShowableType (signature_of (scene_in c.args.scene.now).entries) c.args.page.now.context) e c.requires.typed

pub returns-in-Atom : goal.returns-in-Atom
returns-in-Atom c =
    let s = scene_in c.args.scene.now in
    let p = c.args.page.now in
    let A = atom c.in-Atom.family.0 (spine_of c.in-Atom.spine) in
    let e : type_of c.args.ty ≡ A = grind (arith, types) in
    on_ok c.begin_atom.result _ _
    (λ b. subst (λ X. Begins s p c.begin_atom.new.page ((layout.parts s c.args.levels).type p.context p.scope X) (stacked c.args.due.now.items) (stacked c.begin_atom.new.due.items)) (sym e)
    (type_begun s c.in_ok-inner.inner c.args.levels p c.begin_atom.new.page A (stacked c.args.due.now.items) (stacked c.begin_atom.new.due.items) c.in_ok-inner.ensures b))
    c.begin_atom.ensures
