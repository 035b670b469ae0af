use Rattle.std.proofs.Common.{subst, [], ◌∷◌}
use Rattle.tw_signature.specs.View.{body_of}
use Rattle.tw_print.specs.Page.{Writes}
use Rattle.tw_print.specs.Pieces.{token}
use Rattle.tw_print.specs.SceneView.{scene_in}
use Rattle.tw_print.specs.Shown as layout
use Rattle.tw_print.proofs.Printing.{on_ok, declared_line}
use Rattle.tw_print.proofs.declaration.print_declaration.Goals as goal

pub returns : goal.returns
returns c =
    on_ok c.token-3.result _ _
    (declared_line c.args.page.now c.print_keyword.new.page c.token.new.self c.space.new.self c.token-2.new.self c.space-2.new.self c.print_classifier.new.page c.print_defined.new.page c.token-3.new.self c.args.entry.now.name _ _ _
    c.in_ok-print_keyword.ensures
    (subst (λ n. Writes c.print_keyword.new.page c.token.new.self (token n ∷ [])) c.as_bytes.ensures c.in_ok-token.ensures)
    c.in_ok-space.ensures c.in_ok-token-2.ensures c.in_ok-space-2.ensures
    (subst (λ hs. Writes c.space-2.new.self c.print_classifier.new.page (layout.classifier (scene_in c.args.scene.now) c.args.entry.now.implicit hs (body_of c.args.entry.now.body))) c.deref.ensures.value c.in_ok-print_classifier.ensures)
    c.in_ok-print_defined.ensures)
    c.token-3.ensures
