use Rattle.std.proofs.Common.{◌≡◌, ◌∙◌, map, sym, subst, arith, refl, true, false}
use Rattle.lf.specs.Subordination.{Block}
use Rattle.tw_clause.specs.View.{block_of, worlds_of}
use Rattle.tw_world.specs.Serving.{BlockServes, below_in}
use Rattle.tw_world.proofs.Served.{AllAre, all_done, all_fails, all_next}
use Rattle.tw_world.proofs.serving.blocks_serve.Goals as goal

clash : true ≡ false → ⊥
clash e = cc

pub returns-then-not-block_serves : goal.returns-then-not-block_serves
returns-then-not-block_serves c =
    let S : Block → Type 0 = λ B. BlockServes B (worlds_of c.args.known.now) (below_in c.args.subord.now c.args.family.0) in
    (λ w. absurd (clash (sym w)), λ h. absurd (all_fails block_of S c.deref-block-items.result.now c.loop-block.block-index c.block-item.result (AllAre S (map block_of c.deref-block-items.result.now)) (omega arith) c.block-item.is (λ s. clash (sym (c.block_serves.ensures.1 s) ∙ c.if-not-block_serves.true)) c.loop-block.invariant (subst (λ xs. AllAre S (map block_of xs)) (sym c.deref-block-items.ensures.value) h)))

pub loop-block-preserved : goal.loop-block-preserved
loop-block-preserved c =
    let S : Block → Type 0 = λ B. BlockServes B (worlds_of c.args.known.now) (below_in c.args.subord.now c.args.family.0) in
    all_next block_of S c.deref-block-items.result.now c.loop-block.block-index c.block-item.result (AllAre S (map block_of c.deref-block-items.result.now)) (omega arith) c.block-item.is (c.block_serves.ensures.0 c.if-not-block_serves.false) c.loop-block.invariant

pub returns : goal.returns
returns c =
    let S : Block → Type 0 = λ B. BlockServes B (worlds_of c.args.known.now) (below_in c.args.subord.now c.args.family.0) in
    (λ w. subst (λ xs. AllAre S (map block_of xs)) c.deref-block-items.ensures.value (all_done block_of S c.deref-block-items.result.now c.loop-block.block-index (AllAre S (map block_of c.deref-block-items.result.now)) (omega arith) c.loop-block.invariant), λ h. refl)
