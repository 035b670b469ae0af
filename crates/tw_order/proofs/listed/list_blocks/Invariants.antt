use Rattle.std.proofs.Common.{◌≡◌, ◌++◌, drop, map}
use Rattle.lf_checks.specs.Clauses.{block_clauses}
use Rattle.tw_clause.specs.View.{worlds_of}
use Rattle.tw_order.specs.Listing.{named_of}
use Rattle.tw_order.proofs.listed.list_blocks.Given as goal

abbrev pub invariant-loop-block : goal.invariant-loop-block
invariant-loop-block l = map named_of l.listed.items ++ block_clauses (drop l.block-index (worlds_of l.worlds)) l.family.0 ≡ map named_of l.fn.listed.items ++ block_clauses (worlds_of l.worlds) l.family.0
