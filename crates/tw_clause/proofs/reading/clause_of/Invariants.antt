use Rattle.std.proofs.Common.{◌≡◌, ◌≤◌, [], length, drop}
use Rattle.lf.specs.Entries.{quantifiers}
use Rattle.lf.specs.Variables.{target, target_arguments}
use Rattle.lf_checks.specs.Parts.{shape}
use Rattle.tw_terms.specs.View.{type_of}
use Rattle.tw_clause.specs.View.{in_solving_order}
use Rattle.tw_clause.proofs.Walks.{more_variables, more_subgoals}
use Rattle.tw_clause.proofs.reading.clause_of.Given as goal

abbrev pub decreases-loop-rest : goal.decreases-loop-rest
decreases-loop-rest l = quantifiers (type_of l.rest)

-- the shape of the rest; what was collected, with what the rest gives; and the target
abbrev pub invariant-loop-rest : goal.invariant-loop-rest
invariant-loop-rest l = record {
  rest_shape : drop l.level l.shape.items ≡ shape (type_of l.rest);
  inside : l.level ≤ length l.shape.items;
  variables : more_variables l.before.items l.level (type_of l.rest) l.collected.variables ≡ more_variables l.before.items 0 (type_of l.fn.ty) [];
  subgoals : more_subgoals l.before.items (length l.shape.items) l.level (type_of l.rest) (in_solving_order l.collected.subgoals.items) ≡ more_subgoals l.before.items (length l.shape.items) 0 (type_of l.fn.ty) [];
  family : target (type_of l.rest) ≡ target (type_of l.fn.ty);
  arguments : target_arguments (type_of l.rest) ≡ target_arguments (type_of l.fn.ty);
}
