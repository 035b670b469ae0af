use Rattle.std.proofs.Common.{◌≡◌, ◌∙◌, ap, arith}
use Rattle.lf.specs.Syntax.{kind_pi}
use Rattle.tw_terms.specs.View.{type_of, kind_of}
use Rattle.tw_terms.proofs.Args.{types}
use Rattle.tw_print.specs.SceneView.{scene_in}
use Rattle.tw_print.specs.Shown as layout
use Rattle.tw_print.proofs.Printing.{leading_kind_pi, first_of_kind}
use Rattle.tw_print.proofs.declaration.+print_leading_kind.Goals as goal

pub returns-in_ok-print_leading_kind-in-Pi : goal.returns-in_ok-print_leading_kind-in-Pi
returns-in_ok-print_leading_kind-in-Pi t c =
    let e : kind_of c.args.kind.now ≡ kind_pi (type_of c.deref-in-Pi.result.now) (kind_of c.deref-in-Pi-3.result.now) = grind (arith, types) in
    let d : type_of c.deref.result.now ≡ type_of c.deref-in-Pi.result.now = grind (arith, types) in
    leading_kind_pi (scene_in c.args.scene.now) c.in_ok-inner.inner c.args.leading.implicit c.args.leading.hints.now c.args.place c.args.page.now c.bind.new.page c.print_leading_kind.new.page c.leave.new.self (kind_of c.args.kind.now) (type_of c.deref-in-Pi.result.now) (kind_of c.deref-in-Pi-3.result.now) c.first_mark.result c.deref-in-Pi-2.result.now c.args.levels c.in_ok-next-in-Pi.next c.in_ok-inner.ensures c.in_ok-next-in-Pi.ensures e
    (c.first_mark.ensures ∙ first_of_kind c.args.marks.now (kind_of c.args.kind.now) _ _ c.requires.marked e) (c.deref-in-Pi-2.ensures.value ∙ c.in_ok-base-in-Pi.ensures ∙ ap (layout.leading_base (scene_in c.args.scene.now) c.args.leading.implicit c.args.leading.hints.now c.args.place) d)
    c.in_ok-bind-in-Pi.ensures c.in_ok-print_leading_kind-in-Pi.ensures c.leave.ensures.out c.leave.ensures.context c.leave.ensures.scope
