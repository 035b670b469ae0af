use Rattle.std.proofs.Common.{◌≡◌}
use Rattle.tw_terms.specs.View.{term_of}
use Rattle.tw_hered.specs.Made.{applies_closure}
use Rattle.tw_hered.specs.View.{environment_of}
use Rattle.tw_hered.proofs.head.is_unmade.Given as goal

-- the body applies a closure under the binders that were passed just where the term does
abbrev pub invariant-loop-body : goal.invariant-loop-body
invariant-loop-body l = applies_closure (environment_of l.environment) l.bound (term_of l.body) ≡ applies_closure (environment_of l.environment) 0 (term_of l.term)
