use Rattle.std.proofs.Common.{◌≡◌, ◌-◌, ◌++◌, ◌∙◌, ap, arith, drop, map, suc}
use Rattle.lf_checks.specs.Clauses.{entry_clauses}
use Rattle.tw_clause.specs.View.{block_of}
use Rattle.tw_order.specs.Listing.{named_of}
use Rattle.tw_order.proofs.Collecting.{entry_next}
use Rattle.tw_order.proofs.listed.list_block.Goals as goal

pub loop-newer-preserved : goal.loop-newer-preserved
loop-newer-preserved c =
    let i = c.loop-newer.invariant in
    let n = c.loop-newer.newer - 1 in
    let q : c.loop-newer.newer ≡ suc n = omega arith in
    record {
      outer = c.in_ok-list_entry.ensures.outer;
      within = omega arith;
      so_far = entry_next (block_of c.args.block.now) c.args.family.0 n (map named_of c.loop-newer.listed.items) (map named_of c.list_entry.new.listed.items) (map named_of c.args.listed.now.items) (omega arith) c.in_ok-list_entry.ensures.listed (i.so_far ∙ ap (λ k. map named_of c.args.listed.now.items ++ entry_clauses (block_of c.args.block.now) c.args.family.0 (drop k c.args.block.now.entries)) q);
    }
