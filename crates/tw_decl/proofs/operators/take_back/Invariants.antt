use Rattle.std.specs.Prelude.{reverse}
use Rattle.tw_parse.specs.Outlines.{Table}
use Rattle.tw_decl.specs.Undoing.{LeadsBack}
use Rattle.tw_decl.proofs.operators.take_back.Given as goal

abbrev pub invariant-loop-row : goal.invariant-loop-row
invariant-loop-row l = (first : Table) → LeadsBack l.fn.table (reverse l.fn.old.items) first → LeadsBack l.table (reverse l.old.items) first

abbrev pub decreases-loop-row : goal.decreases-loop-row
decreases-loop-row l = goal.left-loop-row l
