use Rattle.std.proofs.Common.{◌≡◌, drop}
use Rattle.tw_print.specs.ShowEnv.{scene_of}
use Rattle.tw_shown.specs.Naming.{named}
use Rattle.tw_shown.proofs.naming.name_shown.Given as goal

abbrev pub invariant-loop-variable : goal.invariant-loop-variable
invariant-loop-variable l = named (scene_of l.env) l.context (record { names = l.names; taken = l.taken }) (drop l.variable-index l.shown) ≡ named (scene_of l.env) l.context (record { names = l.fn.names; taken = l.fn.taken }) l.shown
