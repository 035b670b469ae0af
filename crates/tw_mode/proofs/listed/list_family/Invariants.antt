use Rattle.std.proofs.Common.{◌≡◌, ◌++◌, ◌-◌, drop, length, map}
use Rattle.lf.specs.Constants.{constants_of}
use Rattle.lf.specs.Entries.{signature_of}
use Rattle.lf_checks.specs.Clauses.{block_clauses, clauses_of, constant_clauses}
use Rattle.tw_clause.specs.View.{worlds_of}
use Rattle.tw_mode.specs.Listing.{listed_clauses}
use Rattle.tw_mode.proofs.listed.list_family.Given as goal

abbrev pub decreases-loop-next : goal.decreases-loop-next
decreases-loop-next l = length l.ids - l.next

abbrev pub invariant-loop-next : goal.invariant-loop-next
invariant-loop-next l = listed_clauses l.sig (worlds_of l.worlds) l.listed.items ++ constant_clauses (signature_of l.sig).types (map (λ c. c.0) (drop l.next l.ids)) ≡ listed_clauses l.sig (worlds_of l.worlds) l.fn.listed.items ++ constant_clauses (signature_of l.sig).types (constants_of l.sig l.family.0)

abbrev pub invariant-loop-number : goal.invariant-loop-number
invariant-loop-number l = listed_clauses l.sig (worlds_of l.worlds) l.listed.items ++ block_clauses (drop l.number (worlds_of l.worlds)) l.family.0 ≡ listed_clauses l.sig (worlds_of l.worlds) l.fn.listed.items ++ clauses_of l.sig (worlds_of l.worlds) l.family.0
