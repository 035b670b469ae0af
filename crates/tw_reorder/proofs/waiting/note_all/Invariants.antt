use Rattle.std.proofs.Common.{◌≡◌, drop, map}
use Rattle.tw_abstract.specs.Occurrences.{noted}
use Rattle.tw_reorder.proofs.waiting.note_all.Given as goal

abbrev pub invariant-loop-variable : goal.invariant-loop-variable
invariant-loop-variable l = noted l.fn.found (map (λ n. n.0) l.variables) ≡ noted l.found (map (λ n. n.0) (drop l.variable-index l.variables))
