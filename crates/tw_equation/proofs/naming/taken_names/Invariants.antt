use Rattle.std.proofs.Common.{◌≡◌, [], drop}
use Rattle.tw_equation.specs.Text.{onto}
use Rattle.tw_equation.proofs.naming.taken_names.Given as goal

abbrev pub invariant-loop-name : goal.invariant-loop-name
invariant-loop-name l = onto (drop l.name-index l.names) l.scope ≡ onto l.names []
