use Rattle.std.proofs.Common.{drop, map, ℕ, suc, Option}
use Rattle.tw_clause.specs.View.{mark_of}
use Rattle.tw_terms.specs.View.{args_of}
use Rattle.tw_mode.specs.Allowed.{allowed_in}
use Rattle.tw_mode.proofs.Ending.{LostOutcome}
use Rattle.tw_mode.proofs.end.first_lost.Given as goal

abbrev pub invariant-loop-place : goal.invariant-loop-place
invariant-loop-place l = (o : Option ℕ) → LostOutcome (allowed_in l.ground) (allowed_in l.settled) (suc l.place) (map mark_of (drop l.place l.marks)) (args_of (drop l.place l.head.args.items)) o → LostOutcome (allowed_in l.ground) (allowed_in l.settled) 1 (map mark_of l.marks) (args_of l.head.args.items) o
