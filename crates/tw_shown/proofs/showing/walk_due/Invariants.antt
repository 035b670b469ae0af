use Rattle.tw_print.specs.ShowEnv.{scene_of}
use Rattle.tw_shown.specs.Due.{Goes, stacked}
use Rattle.tw_shown.proofs.showing.walk_due.Given as goal

-- what was shown and what is due come to the same as at first
abbrev pub invariant-loop : goal.invariant-loop
invariant-loop l = Goes (scene_of l.env) l.fn.walk l.walk (stacked l.fn.due.items) (stacked l.left.items)
