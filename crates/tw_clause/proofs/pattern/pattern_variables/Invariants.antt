use Rattle.std.proofs.Common.{◌≡◌, ◌++◌, drop, []}
use Rattle.lf_checks.specs.Strict.{pattern_arguments}
use Rattle.tw_terms.specs.View.{args_of}
use Rattle.tw_clause.specs.Patterns.{heads, newest_of}
use Rattle.tw_clause.proofs.pattern.pattern_variables.Given as goal

abbrev pub invariant-loop-arg : goal.invariant-loop-arg
invariant-loop-arg l = record {
  so_far : pattern_arguments (newest_of l.bound) l.seen.items (args_of (drop l.arg-index l.arg-items)) ≡ pattern_arguments (newest_of l.bound) [] (args_of l.arg-items);
  met : l.seen.items ++ heads (args_of (drop l.arg-index l.arg-items)) ≡ heads (args_of l.arg-items);
}
