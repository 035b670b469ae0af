use Rattle.std.proofs.Common.{◌≡◌, ◌+◌, suc, map, take}
use Rattle.tw_reorder.proofs.waiting.all_further_out.Given as goal

abbrev pub invariant-loop-variable : goal.invariant-loop-variable
invariant-loop-variable l = map (λ n. n.0) l.moved.items ≡ map (λ i. i + suc l.by) (map (λ n. n.0) (take l.variable-index l.variables))
