use Rattle.std.proofs.Common.{sym}
use Rattle.tw_terms.specs.View.{type_of}
use Rattle.tw_print.specs.Shown as layout
use Rattle.tw_print.specs.SceneView.{scene_in}
use Rattle.tw_print.proofs.Printing.{on_ok, domain_enclosed}
use Rattle.tw_print.proofs.print.print_domain.Goals as goal

pub returns : goal.returns
returns c =
    on_ok c.token-2.result _ _
    (domain_enclosed (layout.parts (scene_in c.args.scene.now) c.args.inner) (scene_in c.args.scene.now) c.args.page.now c.token.new.self c.print_type-2.new.page c.token-2.new.self (type_of c.args.domain.now) (sym c.if-not-is_quantified.ensures) c.in_ok-token.ensures c.in_ok-print_type.ensures)
    c.token-2.ensures
