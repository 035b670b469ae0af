use Rattle.std.proofs.Common.{◌≡◌, ◌-◌, ◌≤◌, length, true}
use Rattle.lf_checks.specs.Clause.{Clause as PlainClause}
use Rattle.tw_mode.specs.Before.{IsClauseOf}
use Rattle.tw_mode.specs.Rows.{marks_in}
use Rattle.tw_mode.specs.Scopes.{in_marks}
use Rattle.tw_mode.proofs.Reaching.{IsGroundAfter}
use Rattle.tw_mode.proofs.before.ground_past.Given as goal

abbrev pub invariant-loop-met : goal.invariant-loop-met
invariant-loop-met l = record {
  ground : (c : PlainClause) → IsClauseOf l.clause c → IsGroundAfter c (marks_in l.table) l.met (in_marks true l.scope.depth l.ground.items);
  len : length l.ground.items ≡ l.scope.depth;
  within : l.met ≤ l.count;
}

abbrev pub decreases-loop-met : goal.decreases-loop-met
decreases-loop-met l = l.count - l.met
