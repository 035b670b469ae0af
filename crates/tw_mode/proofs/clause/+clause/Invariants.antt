use Rattle.std.proofs.Common.{◌+◌, ◌*◌, ◌-◌, ◌≤◌, List, length}
use Rattle.lf.specs.Depth.{type_depth}
use Rattle.lf.specs.Entries.{signature_of}
use Rattle.lf.specs.Syntax.{LfType}
use Rattle.lf_checks.specs.ModeFaults.{ModedBefore}
use Rattle.tw_terms.specs.View.{type_of}
use Rattle.tw_mode.specs.Rows.{marks_in, moded_in}
use Rattle.tw_mode.specs.Solved.{Stands, clause_in, ground_outside}
use Rattle.tw_mode.proofs.clause.+clause.Given as goal

abbrev pub invariant-subgoals_fault-loop-left : goal.invariant-subgoals_fault-loop-left
invariant-subgoals_fault-loop-left l = record {
  within : l.left ≤ length l.domains.items;
  stands : (C : List LfType) → Stands (marks_in l.table) (ground_outside l.outside) (clause_in C l.outside (type_of l.ty)) l.scope.depth l.walk (length l.domains.items - l.left);
  before : (C : List LfType) → ModedBefore (signature_of l.sig) (marks_in l.table) (moded_in l.table) (ground_outside l.outside) (clause_in C l.outside (type_of l.ty)) (length l.domains.items - l.left);
}

abbrev pub decreases-subgoals_fault-loop-left : goal.decreases-subgoals_fault-loop-left
decreases-subgoals_fault-loop-left l = l.left

abbrev pub decreases-clause_fault : goal.decreases-clause_fault
decreases-clause_fault l = 8 * type_depth (type_of l.ty.now) + 2

abbrev pub decreases-sound_fault : goal.decreases-sound_fault
decreases-sound_fault l = 8 * type_depth (type_of l.ty.now) + 1

abbrev pub decreases-subgoals_fault : goal.decreases-subgoals_fault
decreases-subgoals_fault l = 8 * type_depth (type_of l.ty.now)

abbrev pub decreases-quantifier_fault : goal.decreases-quantifier_fault
decreases-quantifier_fault l = 8 * type_depth (type_of l.domain.now) + 7

abbrev pub decreases-step : goal.decreases-step
decreases-step l = 8 * type_depth (type_of l.goal.now) + 6

abbrev pub decreases-subgoal_fault : goal.decreases-subgoal_fault
decreases-subgoal_fault l = 8 * type_depth (type_of l.goal.now) + 5

abbrev pub decreases-hypotheses_are_moded : goal.decreases-hypotheses_are_moded
decreases-hypotheses_are_moded l = 8 * type_depth (type_of l.goal.now) + 4

abbrev pub decreases-each_hypothesis : goal.decreases-each_hypothesis
decreases-each_hypothesis l = 8 * type_depth (type_of l.goal.now) + 3

abbrev pub decreases-is_moded : goal.decreases-is_moded
decreases-is_moded l = 8 * type_depth (type_of l.domain.now) + 3
