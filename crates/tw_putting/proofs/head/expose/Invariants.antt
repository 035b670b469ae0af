use Rattle.std.proofs.Common.{◌≡◌}
use Rattle.tw_terms.specs.OpenView.{open_term_of}
use Rattle.tw_putting.specs.Frames.{WalkFits}
use Rattle.tw_putting.specs.Values.{put_value}
use Rattle.tw_putting.specs.View.{environment_of}
use Rattle.tw_putting.proofs.head.expose.Given as goal

-- the value stays the same
abbrev pub invariant-loop : goal.invariant-loop
invariant-loop l = record {
  fits : WalkFits l.store.now l.binders (environment_of l.here.environment.now) (open_term_of l.here.body.now);
  value : put_value l.store.now l.binders (environment_of l.here.environment.now) (open_term_of l.here.body.now) ≡ put_value l.store.now l.binders (environment_of l.environment) (open_term_of l.term);
}
