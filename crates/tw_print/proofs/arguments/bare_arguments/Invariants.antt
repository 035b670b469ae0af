use Rattle.std.proofs.Common.{◌≡◌, ◌++◌, map, reverse, vec_len}
use Rattle.tw_terms.specs.View.{args_of}
use Rattle.tw_print.specs.Arguments as spec
use Rattle.tw_print.specs.ArgumentView.{argument_of}
use Rattle.tw_print.proofs.arguments.bare_arguments.Given as goal

abbrev pub invariant-loop-term : goal.invariant-loop-term
invariant-loop-term l = map argument_of l.arguments.items ++ spec.bare_arguments (args_of (reverse l.rest.items)) ≡ spec.bare_arguments (args_of l.fn.args.items)

abbrev pub decreases-loop-term : goal.decreases-loop-term
decreases-loop-term l = vec_len l.rest
