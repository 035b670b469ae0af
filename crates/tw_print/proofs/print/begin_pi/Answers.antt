use Rattle.std.proofs.Common.{◌∷◌, [], drop, refl, ap, ◌∙◌, subst, codes}
use Rattle.tw_terms.specs.View.{type_of}
use Rattle.tw_print.specs.Due.{stacked}
use Rattle.tw_print.specs.Marks.{head_mark}
use Rattle.tw_print.specs.Names as names
use Rattle.tw_print.specs.Page.{Writes}
use Rattle.tw_print.specs.Pieces.{token}
use Rattle.tw_print.specs.SceneView.{scene_in}
use Rattle.tw_print.proofs.Dues.{arrow_begun, named_begun}
use Rattle.tw_print.proofs.Printing.{on_ok}
use Rattle.tw_print.proofs.print.begin_pi.Goals as goal

pub returns-then-occurring : goal.returns-then-occurring
returns-then-occurring c =
    let s = scene_in c.args.scene.now in
    let A = type_of c.args.domain in
    let B = type_of c.args.range in
    on_ok c.push_type.result _ _
    (named_begun s c.args.inner c.args.page.now c.open.new.self A B (stacked c.args.due.now.items) c.in_ok-name.name c.last_mark-occurring.result c.in_ok-entered.entered c.args.range c.last_mark-occurring.new.marks (stacked c.push.new.due.items) (stacked c.push-2.new.due.items) (stacked c.push-then-occurring.new.due.items) (stacked c.push-then-occurring-2.new.due.items) (stacked c.push_type.new.due.items)
    (c.last_mark-occurring.ensures.first ∙ ap head_mark c.requires.marked) c.if-occurring.true (c.in_ok-name.ensures ∙ ap (names.fresh_name s c.args.page.now.scope) c.lower_base.ensures)
    (subst (λ x. Writes c.args.page.now c.open.new.self (token (codes "{") ∷ token x ∷ token (codes ":") ∷ [])) c.as_bytes.ensures c.in_ok-open.ensures)
    refl c.in_ok-entered.ensures (c.last_mark-occurring.ensures.rest ∙ ap (drop 1) c.requires.marked)
    c.in_ok-push.ensures c.in_ok-push-2.ensures c.in_ok-push-3.ensures c.in_ok-push-4.ensures c.requires.typed c.requires.fits)
    c.push_type.ensures

pub returns : goal.returns
returns c =
    let s = scene_in c.args.scene.now in
    let A = type_of c.args.domain in
    let B = type_of c.args.range in
    on_ok c.push_domain.result _ _
    (arrow_begun s c.args.inner c.args.page.now A B (stacked c.args.due.now.items) c.last_mark-occurring.result c.in_ok-entered.entered c.args.range c.last_mark-occurring.new.marks (stacked c.push.new.due.items) (stacked c.push-2.new.due.items) (stacked c.push-3.new.due.items) (stacked c.push-4.new.due.items) (stacked c.push_domain.new.due.items)
    (c.last_mark-occurring.ensures.first ∙ ap head_mark c.requires.marked) c.if-occurring.false
    refl c.in_ok-entered.ensures (c.last_mark-occurring.ensures.rest ∙ ap (drop 1) c.requires.marked)
    c.in_ok-push.ensures c.in_ok-push-2.ensures c.in_ok-push-5.ensures c.in_ok-push-6.ensures c.requires.typed c.requires.fits)
    c.push_domain.ensures
