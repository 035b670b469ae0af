use Rattle.std.proofs.Common.{◌≡◌, Err, Ok, arith, rules, subst}
use Rattle.tw_clause.specs.View.{block_of}
use Rattle.tw_world.specs.Checks.{Checked}
use Rattle.tw_world.proofs.Checked.{block_alone, blocks_listed, blocks_next, loop_ends, loop_goes_on}
use Rattle.tw_world.proofs.Served.{member_at}
use Rattle.tw_world.proofs.check.check_blocks.Goals as goal

pub check_block-requires-clause-block : goal.check_block-requires-clause-block
check_block-requires-clause-block c = c.requires.typed (block_of c.block-item.result) (member_at block_of c.args.blocks.now c.loop-block.block-index c.block-item.result (omega arith) c.block-item.is)

pub returns-in_err-check_block : goal.returns-in_err-check_block
returns-in_err-check_block c =
    let x = c.args.check.now in
    let a = c.args.family.0 in
    let f = c.in_err-check_block.field-0.0 in
    let e : c.from_residual.result ≡ Err f = search rules in
    loop_ends x (block_alone a) (blocks_listed a) (blocks_next a) c.args.blocks.now c.loop-block.block-index c.block-item.result f c.from_residual.result (omega arith) e c.loop-block.invariant (subst (λ b. Checked x (block_alone a b) (Err f)) c.block-item.is c.in_err-check_block.ensures)

pub loop-block-preserved : goal.loop-block-preserved
loop-block-preserved c =
    let x = c.args.check.now in
    let a = c.args.family.0 in
    loop_goes_on x (block_alone a) (blocks_listed a) (blocks_next a) c.args.blocks.now c.loop-block.block-index c.block-item.result (omega arith) c.loop-block.invariant (subst (λ b. Checked x (block_alone a b) (Ok tt)) c.block-item.is c.in_ok-check_block.ensures)
