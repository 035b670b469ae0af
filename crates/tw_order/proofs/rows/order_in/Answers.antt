use Rattle.std.proofs.Common.{◌+◌, ◌∷◌, ◌∙◌, ap, arith, drop, sym}
use Rattle.tw_order.proofs.Calling.{row_found, row_next}
use Rattle.tw_order.proofs.Collecting.{drop_get}
use Rattle.tw_order.proofs.rows.order_in.Goals as goal

pub returns-then-row-family : goal.returns-then-row-family
returns-then-row-family c =
    let xs = c.args.group.now in
    let k = c.loop-row.row-index in
    let x = c.row-item.result in
    row_found (drop (k + 1) xs) c.args.family.0 x (drop k xs) (drop_get xs k x (omega arith) ∙ ap (λ z. z ∷ drop (k + 1) xs) (sym c.row-item.is)) c.if-row-family.true ∙ c.loop-row.invariant

pub loop-row-preserved : goal.loop-row-preserved
loop-row-preserved c =
    let xs = c.args.group.now in
    let k = c.loop-row.row-index in
    let x = c.row-item.result in
    row_next (drop (k + 1) xs) k c.args.family.0 x (drop k xs) (drop_get xs k x (omega arith) ∙ ap (λ z. z ∷ drop (k + 1) xs) (sym c.row-item.is)) c.if-row-family.false ∙ c.loop-row.invariant
