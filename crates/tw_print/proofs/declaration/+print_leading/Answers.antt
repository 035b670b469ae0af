use Rattle.std.proofs.Common.{◌≡◌, ◌∙◌, ap, arith}
use Rattle.lf.specs.Syntax.{pi, atom}
use Rattle.tw_terms.specs.View.{spine_of, type_of}
use Rattle.tw_terms.proofs.Args.{types}
use Rattle.tw_print.specs.SceneView.{scene_in}
use Rattle.tw_print.specs.Shown as layout
use Rattle.tw_print.proofs.Printing.{on_ok, leading_pi, leading_atom, first_of_type}
use Rattle.tw_print.proofs.declaration.+print_leading.Goals as goal

pub returns-in_ok-print_leading-in-Pi : goal.returns-in_ok-print_leading-in-Pi
returns-in_ok-print_leading-in-Pi t c =
    let e : type_of c.args.ty.now ≡ pi (type_of c.deref-in-Pi.result.now) (type_of c.deref-in-Pi-3.result.now) = grind (arith, types) in
    let d : type_of c.deref.result.now ≡ type_of c.deref-in-Pi.result.now = grind (arith, types) in
    leading_pi (scene_in c.args.scene.now) c.in_ok-inner.inner c.args.leading.implicit c.args.leading.hints.now c.args.place c.args.page.now c.bind.new.page c.print_leading.new.page c.leave.new.self (type_of c.args.ty.now) (type_of c.deref-in-Pi.result.now) (type_of c.deref-in-Pi-3.result.now) c.first_mark.result c.deref-in-Pi-2.result.now c.args.levels c.in_ok-next-in-Pi.next c.in_ok-inner.ensures c.in_ok-next-in-Pi.ensures e
    (c.first_mark.ensures ∙ first_of_type c.args.marks.now (type_of c.args.ty.now) _ _ c.requires.marked e) (c.deref-in-Pi-2.ensures.value ∙ c.in_ok-base-in-Pi.ensures ∙ ap (layout.leading_base (scene_in c.args.scene.now) c.args.leading.implicit c.args.leading.hints.now c.args.place) d)
    c.in_ok-bind-in-Pi.ensures c.in_ok-print_leading-in-Pi.ensures c.leave.ensures.out c.leave.ensures.context c.leave.ensures.scope

pub returns-in-Atom : goal.returns-in-Atom
returns-in-Atom t c =
    let e : type_of c.args.ty.now ≡ atom c.in-Atom.family.0 (spine_of c.in-Atom.spine) = grind (arith, types) in
    on_ok c.print_atom.result _ _ (leading_atom (scene_in c.args.scene.now) c.in_ok-inner.inner c.args.leading.implicit c.args.leading.hints.now c.args.place c.args.page.now c.print_atom.new.page (type_of c.args.ty.now) c.in-Atom.family.0 (spine_of c.in-Atom.spine) c.args.levels c.in_ok-inner.ensures e) c.print_atom.ensures
