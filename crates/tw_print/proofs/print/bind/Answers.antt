use Rattle.std.proofs.Common.{◌∷◌, [], subst, codes}
use Rattle.tw_terms.specs.View.{type_of}
use Rattle.tw_print.specs.Shown as layout
use Rattle.tw_print.specs.Pieces.{token}
use Rattle.tw_print.specs.Page.{Writes}
use Rattle.tw_print.specs.SceneView.{scene_in}
use Rattle.tw_print.proofs.Printing.{on_ok, named_bound, arrow_bound}
use Rattle.tw_print.proofs.print.bind.Goals as goal

pub returns-then-occurring : goal.returns-then-occurring
returns-then-occurring c =
    on_ok c.enter.result _ _
    (named_bound (layout.parts (scene_in c.args.scene.now) c.args.inner) (scene_in c.args.scene.now) c.args.page.now c.open.new.self c.print_type.new.page c.close.new.self c.enter.new.self _ c.args.base.now c.args.occurring (type_of c.args.domain.now) c.if-occurring.true c.in_ok-name.ensures (subst (λ n. Writes c.args.page.now c.open.new.self (token (codes "{") ∷ token n ∷ token (codes ":") ∷ [])) c.as_bytes.ensures c.in_ok-open.ensures) c.in_ok-print_type.ensures c.in_ok-close.ensures)
    c.enter.ensures

pub returns : goal.returns
returns c =
    on_ok c.enter-2.result _ _
    (arrow_bound (layout.parts (scene_in c.args.scene.now) c.args.inner) (scene_in c.args.scene.now) c.args.page.now c.print_domain.new.page c.arrow.new.self c.enter-2.new.self c.args.base.now c.args.occurring (type_of c.args.domain.now) c.if-occurring.false c.in_ok-print_domain.ensures c.in_ok-arrow.ensures)
    c.enter-2.ensures
