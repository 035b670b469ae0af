use Rattle.std.proofs.Common.{◌≡◌, drop, map}
use Rattle.std.specs.Option.{option_map}
use Rattle.tw_terms.specs.OpenView.{open_args_of}
use Rattle.tw_terms.specs.View.{term_of}
use Rattle.tw_abstract.specs.Generalizing.{generalized_spine}
use Rattle.tw_abstract.specs.Positions.{index}
use Rattle.tw_abstract.proofs.Steps.{before}
use Rattle.tw_abstract.proofs.generalizing.+generalizing.Given as goal

-- what is made so far stands before what the rest gives
abbrev pub invariant-generalized_spine-loop-arg : goal.invariant-generalized_spine-loop-arg
invariant-generalized_spine-loop-arg l = generalized_spine (index l.positions) l.binders (open_args_of l.arg-items) ≡ option_map (before (map term_of l.args.items)) (generalized_spine (index l.positions) l.binders (open_args_of (drop l.arg-index l.arg-items)))
