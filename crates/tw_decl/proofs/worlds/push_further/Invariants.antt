use Rattle.std.proofs.Common.{◌≡◌, ◌++◌, drop}
use Rattle.tw_decl.specs.Worlds.{further_labels}
use Rattle.tw_decl.proofs.worlds.push_further.Given as goal

abbrev pub invariant-loop-label : goal.invariant-loop-label
invariant-loop-label l = l.line.items ++ further_labels (drop l.label-index l.labels) ≡ l.fn.line.items ++ further_labels l.labels
