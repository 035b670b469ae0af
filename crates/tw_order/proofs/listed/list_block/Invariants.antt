use Rattle.std.proofs.Common.{◌≡◌, ◌≤◌, ◌++◌, drop, length, map}
use Rattle.lf.specs.Variables.{onto}
use Rattle.lf_checks.specs.Clauses.{entry_clauses}
use Rattle.tw_clause.specs.View.{block_of}
use Rattle.tw_order.specs.Listing.{named_of}
use Rattle.tw_order.proofs.listed.list_block.Given as goal

abbrev pub invariant-loop-newer : goal.invariant-loop-newer
invariant-loop-newer l = record {
  outer : l.outer ≡ onto (drop l.newer l.block.entries) l.block.some;
  within : l.newer ≤ length l.block.entries;
  so_far : map named_of l.listed.items ≡ map named_of l.fn.listed.items ++ entry_clauses (block_of l.block) l.family.0 (drop l.newer l.block.entries);
}

abbrev pub decreases-loop-newer : goal.decreases-loop-newer
decreases-loop-newer l = l.newer
