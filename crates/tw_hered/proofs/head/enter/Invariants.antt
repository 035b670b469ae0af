use Rattle.std.proofs.Common.{◌≡◌, drop}
use Rattle.lf_closures.specs.Environments.{move_by, applied_in}
use Rattle.lf_closures.specs.Typing.{ClosureApplies, TakesAll}
use Rattle.tw_terms.specs.View.{term_of, args_of, skeleton_of}
use Rattle.tw_hered.specs.View.{environment_of}
use Rattle.tw_hered.specs.Made.{AreMade}
use Rattle.tw_hered.proofs.head.enter.Given as goal

-- what is left of the closure takes the arguments that are left, and gives the same
abbrev pub invariant-loop-arg : goal.invariant-loop-arg
invariant-loop-arg l = record {
  takes : TakesAll (skeleton_of l.rest) (term_of l.body) (args_of (drop l.arg-index l.args));
  applies : ClosureApplies (skeleton_of l.rest) (term_of l.body) (environment_of l.environment) (args_of (drop l.arg-index l.args)) (environment_of l.scope);
  made : AreMade (environment_of l.scope) l.left (drop l.arg-index l.args);
  value : applied_in (skeleton_of l.rest) (term_of l.body) (environment_of l.environment) (args_of (drop l.arg-index l.args)) (environment_of l.scope) ≡ applied_in (skeleton_of l.closure.skeleton.now) (term_of l.closure.term.now) (move_by l.closure.binders (environment_of l.closure.scope.now)) (args_of l.args) (environment_of l.scope);
}
