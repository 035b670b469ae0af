use Rattle.std.proofs.Common.{◌≡◌, ◌++◌, drop, map}
use Rattle.lf.specs.Constants.{constants_of}
use Rattle.lf.specs.Entries.{signature_of}
use Rattle.lf_checks.specs.Clauses.{constant_clauses}
use Rattle.tw_order.specs.Listing.{named_of}
use Rattle.tw_order.proofs.listed.list_constants.Given as goal

abbrev pub invariant-loop-id : goal.invariant-loop-id
invariant-loop-id l = map named_of l.listed.items ++ constant_clauses (signature_of l.sig).types (map (λ c. c.0) (drop l.id-index l.ids)) ≡ map named_of l.fn.listed.items ++ constant_clauses (signature_of l.sig).types (constants_of l.sig l.fn.family.0)
