use Rattle.std.proofs.Common.{◌∷◌, [], refl, ap, ◌∙◌, subst, codes}
use Rattle.tw_terms.specs.View.{term_of, type_of}
use Rattle.tw_print.specs.Due.{stacked}
use Rattle.tw_print.specs.Names as names
use Rattle.tw_print.specs.Page.{Writes}
use Rattle.tw_print.specs.Pieces.{token}
use Rattle.tw_print.specs.SceneView.{scene_in}
use Rattle.tw_print.proofs.Dues.{lambda_begun}
use Rattle.tw_print.proofs.Printing.{on_ok}
use Rattle.tw_print.proofs.print.begin_lambda.Goals as goal

pub returns : goal.returns
returns c =
    let s = scene_in c.args.scene.now in
    on_ok c.push_type.result _ _
    (lambda_begun s c.args.inner c.args.page.now c.open.new.self (type_of c.args.domain) (type_of c.args.range) (stacked c.args.due.now.items) (term_of c.args.body) c.in_ok-name.name c.args.body c.args.range c.in_ok-entered.entered (stacked c.push.new.due.items) (stacked c.push-2.new.due.items) (stacked c.push-3.new.due.items) (stacked c.push-4.new.due.items) (stacked c.push_type.new.due.items)
    (c.in_ok-name.ensures ∙ ap (names.fresh_name s c.args.page.now.scope) c.lower_base.ensures)
    (subst (λ x. Writes c.args.page.now c.open.new.self (token (codes "[") ∷ token x ∷ token (codes ":") ∷ [])) c.as_bytes.ensures c.in_ok-open.ensures)
    refl refl c.in_ok-entered.ensures c.in_ok-push.ensures c.in_ok-push-2.ensures c.in_ok-push-3.ensures c.in_ok-push-4.ensures c.requires.typed c.requires.fits)
    c.push_type.ensures
