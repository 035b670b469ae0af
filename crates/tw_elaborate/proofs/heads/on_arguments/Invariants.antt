use Rattle.std.proofs.Common.{drop}
use Rattle.lf.specs.Depth.{depth_limit}
use Rattle.lf.specs.Syntax.{skeleton}
use Rattle.tw_terms.specs.OpenView.{open_args_of, open_spine_of, open_term_of, open_type_of}
use Rattle.tw_elaborate.proofs.Naming.{Taken}
use Rattle.tw_elaborate.proofs.heads.on_arguments.Given as goal

-- what the rest of the arguments gives
abbrev pub invariant-loop-arg : goal.invariant-loop-arg
invariant-loop-arg l = Taken depth_limit (skeleton (open_type_of l.fn.ty)) (open_term_of l.fn.term) (open_spine_of l.spine) (skeleton (open_type_of l.rest)) (open_term_of l.body) (open_args_of (drop l.arg-index l.spine.args.items))
