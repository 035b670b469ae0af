use Rattle.std.proofs.Common.{◌≡◌}
use Rattle.lf_closures.specs.Environments.{value_in}
use Rattle.lf_closures.specs.Typing.{ClosureFits}
use Rattle.tw_terms.specs.View.{term_of}
use Rattle.tw_hered.specs.View.{environment_of}
use Rattle.tw_hered.proofs.head.expose.Given as goal

-- the value stays the same
abbrev pub invariant-loop : goal.invariant-loop
invariant-loop l = record {
  fits : ClosureFits (environment_of l.here.environment.now) (term_of l.here.body.now);
  value : value_in (environment_of l.here.environment.now) (term_of l.here.body.now) ≡ value_in (environment_of l.environment) (term_of l.term);
}
