use Rattle.std.proofs.Common.{◌+◌, ◌∙◌, [], ap, arith, drop, get_or, map}
use Rattle.lf.specs.Entries.{signature_of}
use Rattle.lf_checks.specs.Clauses.{block_clauses, constant_clauses, entry_clauses, with_constant}
use Rattle.tw_clause.specs.View.{block_of, worlds_of}
use Rattle.tw_mode.specs.Listing.{listed_clauses}
use Rattle.tw_mode.specs.declared.listed.Listed.TheVariants.{Constant}
use Rattle.tw_mode.proofs.Listing.{blocks_next, constants_next, listed_push, map_found, one_more_in_front}
use Rattle.tw_mode.proofs.listed.list_family.Goals as goal

pub loop-next-preserved : goal.loop-next-preserved
loop-next-preserved c =
    let es = c.args.sig.now in
    let W = worlds_of c.args.worlds.now in
    let ids = c.constants_of-ids.result.now in
    let k = c.loop-next.next in
    let x = c.nth_constant.result in
    one_more_in_front (listed_clauses es W c.loop-next.listed.items) (listed_clauses es W c.push.new.self.items) (with_constant x.0 ((signature_of es).types x.0) []) (constant_clauses (signature_of es).types (map (λ i. i.0) (drop k ids))) (constant_clauses (signature_of es).types (map (λ i. i.0) (drop (k + 1) ids))) _ (ap (listed_clauses es W) c.in_ok-push.ensures.items ∙ listed_push es W c.loop-next.listed.items (Constant x)) (constants_next es ids k x c.nth_constant.ensures) c.loop-next.invariant

pub loop-number-preserved : goal.loop-number-preserved
loop-number-preserved c =
    let es = c.args.sig.now in
    let W = worlds_of c.args.worlds.now in
    let blocks = c.args.worlds.now.blocks.items in
    let a = c.args.family.0 in
    let k = c.loop-number.number in
    let x = c.block-item.result in
    let found = map_found block_of blocks k x (omega arith) (c.block-item.is ∙ ap (λ xs. get_or xs k x) c.deref-block-items.ensures.value) in
    one_more_in_front (listed_clauses es W c.loop-number.listed.items) (listed_clauses es W c.list_block.new.listed.items) (entry_clauses (block_of x) a x.entries) (block_clauses (drop k W) a) (block_clauses (drop (k + 1) W) a) _ (c.in_ok-list_block.ensures es W found) (blocks_next W k (block_of x) a found) c.loop-number.invariant
