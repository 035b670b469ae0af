use Rattle.std.proofs.Common.{◌≡◌, ◌++◌, drop, map}
use Rattle.lf_checks.specs.Clauses.{group_clauses}
use Rattle.tw_clause.specs.View.{worlds_of}
use Rattle.tw_order.specs.Listing.{named_of}
use Rattle.tw_order.specs.Rows.{families_of}
use Rattle.tw_order.proofs.listed.list_group.Given as goal

abbrev pub invariant-loop-row : goal.invariant-loop-row
invariant-loop-row l = map named_of l.listed.items ++ group_clauses l.sig (worlds_of l.worlds) (families_of (drop l.row-index l.group)) ≡ group_clauses l.sig (worlds_of l.worlds) (families_of l.group)
