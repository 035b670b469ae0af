use Rattle.std.proofs.Common.{◌+◌, ◌∙◌, ap, arith, drop, get_or, map}
use Rattle.lf_checks.specs.Clauses.{block_clauses, entry_clauses}
use Rattle.tw_clause.specs.View.{block_of, worlds_of}
use Rattle.tw_order.specs.Listing.{named_of}
use Rattle.tw_order.proofs.Collecting.{blocks_next, map_found, more_in_front}
use Rattle.tw_order.proofs.listed.list_blocks.Goals as goal

pub loop-block-preserved : goal.loop-block-preserved
loop-block-preserved c =
    let W = worlds_of c.args.worlds.now in
    let a = c.args.family.0 in
    let k = c.loop-block.block-index in
    let x = c.block-item.result in
    let found = map_found block_of c.args.worlds.now.blocks.items k x (omega arith) (c.block-item.is ∙ ap (λ xs. get_or xs k x) c.deref-block-items.ensures.value) in
    more_in_front (map named_of c.loop-block.listed.items) (map named_of c.list_block.new.listed.items) (entry_clauses (block_of x) a x.entries) (block_clauses (drop k W) a) (block_clauses (drop (k + 1) W) a) _ c.in_ok-list_block.ensures (blocks_next W k (block_of x) a found) c.loop-block.invariant
