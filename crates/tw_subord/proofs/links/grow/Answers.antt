use Rattle.std.proofs.Common.{◌≡◌, ◌∙◌, ◌+◌, ◌∷◌, [], ap, arith, length}
use Rattle.std.proofs.lemmas.List.{length-append}
use Rattle.tw_subord.specs.Rows.{row, rows_of}
use Rattle.tw_subord.proofs.Rows.{row_more}
use Rattle.tw_subord.proofs.links.grow.Goals as goal

pub loop-links-preserved : goal.loop-links-preserved
loop-links-preserved c =
    let longer : length c.push.new.self.items ≡ length c.loop-links.links.items + 1 = ap length c.in_ok-push.ensures.items ∙ length-append c.loop-links.links.items (c.new.result ∷ []) in
    (λ b. ap (λ vs. row (rows_of vs) b) c.in_ok-push.ensures.items ∙ (row_more c.loop-links.links.items c.new.result b c.new.ensures.items ∙ c.loop-links.invariant.0 b), omega (arith, longer, c.loop-links.invariant.1))
