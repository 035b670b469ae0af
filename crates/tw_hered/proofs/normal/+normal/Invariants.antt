use Rattle.std.proofs.Common.{◌≡◌, ◌*◌, ◌+◌, ◌≤◌, length}
use Rattle.lf_closures.specs.Environments.{value_in}
use Rattle.lf_closures.specs.Typing.{ClosureFits}
use Rattle.tw_terms.specs.View.{term_of}
use Rattle.tw_hered.specs.View.{environment_of}
use Rattle.tw_hered.specs.Made.{AreMade}
use Rattle.tw_hered.specs.Waiting.{whole, AllFit, AllShallow}
use Rattle.tw_hered.proofs.normal.+normal.Given as goal

abbrev pub decreases-normal_term : goal.decreases-normal_term
decreases-normal_term l = 4 * l.nested + 2

abbrev pub decreases-step : goal.decreases-step
decreases-step l = 4 * l.nested + 1

abbrev pub decreases-apply_made : goal.decreases-apply_made
decreases-apply_made l = 4 * l.nested

abbrev pub decreases-made_argument : goal.decreases-made_argument
decreases-made_argument l = 4 * l.nested + 3

-- what waits makes the whole of the term that is made next
abbrev pub invariant-normal_term-loop : goal.invariant-normal_term-loop
invariant-normal_term-loop l = record {
  waiting : AllFit l.waiting.items;
  fits : ClosureFits (environment_of l.here.environment.now) (term_of l.here.body.now);
  value : whole l.waiting.items (value_in (environment_of l.here.environment.now) (term_of l.here.body.now)) ≡ value_in (environment_of l.environment) (term_of l.term);
  few : length l.waiting.items ≤ l.levels;
  shallow : AllShallow l.levels l.waiting.items;
}

-- the arguments so far
abbrev pub invariant-apply_made-loop-arg : goal.invariant-apply_made-loop-arg
invariant-apply_made-loop-arg l = record {
  made : AreMade (environment_of l.scope) l.made.items l.args;
  count : length l.made.items ≡ l.arg-index;
}
