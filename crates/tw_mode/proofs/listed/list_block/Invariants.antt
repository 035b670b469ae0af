use Rattle.std.proofs.Common.{◌≡◌, ◌++◌, ◌≤◌, List, Some, drop, length}
use Rattle.std.specs.Prelude.{slice_get}
use Rattle.lf.specs.Entries.{Entry as PlainEntry}
use Rattle.lf.specs.Subordination.{Block as PlainBlock}
use Rattle.lf_checks.specs.Clauses.{entry_clauses}
use Rattle.tw_clause.specs.View.{block_of}
use Rattle.tw_mode.specs.Listing.{listed_clauses}
use Rattle.tw_mode.proofs.listed.list_block.Given as goal

abbrev pub invariant-loop-newer : goal.invariant-loop-newer
invariant-loop-newer l = record {
  so_far : (es : List PlainEntry) (W : List PlainBlock) → slice_get W l.number ≡ Some (block_of l.block) → listed_clauses es W l.listed.items ≡ listed_clauses es W l.fn.listed.items ++ entry_clauses (block_of l.block) l.family.0 (drop l.newer l.block.entries);
  within : l.newer ≤ length l.block.entries;
}

abbrev pub decreases-loop-newer : goal.decreases-loop-newer
decreases-loop-newer l = l.newer
