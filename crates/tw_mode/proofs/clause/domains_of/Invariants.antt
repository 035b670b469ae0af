use Rattle.std.proofs.Common.{◌≡◌, ◌++◌, map}
use Rattle.lf.specs.Entries.{quantifiers}
use Rattle.tw_terms.specs.View.{type_of}
use Rattle.tw_mode.specs.Solved.{domain_types}
use Rattle.tw_mode.proofs.clause.domains_of.Given as goal

abbrev pub decreases-loop-rest : goal.decreases-loop-rest
decreases-loop-rest l = quantifiers (type_of l.rest)

abbrev pub invariant-loop-rest : goal.invariant-loop-rest
invariant-loop-rest l = map (λ d. type_of d.now) l.domains.items ++ domain_types (type_of l.rest) ≡ domain_types (type_of l.fn.ty)
