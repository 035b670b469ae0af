use Rattle.std.proofs.Common.{◌≡◌, ◌++◌, drop, map}
use Rattle.lf_checks.specs.Clauses.{group_clauses}
use Rattle.tw_clause.specs.View.{worlds_of}
use Rattle.tw_mode.specs.Listing.{listed_clauses}
use Rattle.tw_mode.proofs.listed.list_group.Given as goal

abbrev pub invariant-loop-family : goal.invariant-loop-family
invariant-loop-family l = listed_clauses l.sig (worlds_of l.worlds) l.listed.items ++ group_clauses l.sig (worlds_of l.worlds) (map (λ f. f.0) (drop l.family-index l.group)) ≡ group_clauses l.sig (worlds_of l.worlds) (map (λ f. f.0) l.group)
