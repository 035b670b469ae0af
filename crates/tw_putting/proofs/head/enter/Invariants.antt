use Rattle.std.proofs.Common.{drop}
use Rattle.lf.specs.Syntax.{skeleton}
use Rattle.lf_closures.specs.Environments.{move_by}
use Rattle.lf_closures.specs.Typing.{TakesAll}
use Rattle.tw_terms.specs.OpenView.{open_term_of, open_args_of, open_type_of}
use Rattle.tw_putting.specs.View.{environment_of}
use Rattle.tw_putting.proofs.Frames.{StillApplies}
use Rattle.tw_putting.proofs.head.enter.Given as goal

-- what is left of the closure takes the arguments that are left, and gives the same
abbrev pub invariant-loop-arg : goal.invariant-loop-arg
invariant-loop-arg l = record {
  takes : TakesAll (skeleton (open_type_of l.rest)) (open_term_of l.body) (open_args_of (drop l.arg-index l.args));
  same : StillApplies (skeleton (open_type_of l.closure.ty.now)) (open_term_of l.closure.term.now) (move_by l.closure.binders (environment_of l.closure.scope.now)) (open_args_of l.args) (environment_of l.scope) (skeleton (open_type_of l.rest)) (open_term_of l.body) (environment_of l.environment) (open_args_of (drop l.arg-index l.args));
}
