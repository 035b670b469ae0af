use Rattle.std.proofs.Common.{◌≡◌}
use Rattle.lf_closures.specs.Environments.{found, found_under}
use Rattle.tw_hered.specs.View.{environment_of}
use Rattle.tw_hered.proofs.environment.find.Given as goal

-- what is still to be found, moved over the binders that were passed
abbrev pub invariant-loop-here : goal.invariant-loop-here
invariant-loop-here l = found_under l.binders (found (environment_of l.here) l.index) ≡ found (environment_of l.environment) l.variable
