use Rattle.std.proofs.Common.{◌∙◌, ◌<◌, length, arith}
use Rattle.std.proofs.lemmas.List.{length-set}
use Rattle.tw_subord.proofs.Rows.{row_kept}
use Rattle.tw_subord.proofs.links.put_in_order.Goals as goal

pub loop-number-preserved : goal.loop-number-preserved
loop-number-preserved c =
    let links = c.loop-number.links.items in
    let n = c.loop-number.number in
    let inside : n < length links = omega (arith, c.loop-number-test.true, c.len-number-end.ensures, c.loop-number.invariant.1, c.args.links.now.ok) in (
      λ a b. let k = row_kept links n c.index_mut.result.now c.in_order.new.row inside c.index_mut.ensures.value c.in_order.ensures.same a b in let i = c.loop-number.invariant.0 a b in (λ h. i.0 (k.0 h), λ h. k.1 (i.1 h)),
      length-set links n c.in_order.new.row ∙ c.loop-number.invariant.1,
    )
