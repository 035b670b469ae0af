use Rattle.std.proofs.Common.{◌≡◌, drop, take}
use Rattle.tw_print.specs.ShowEnv.{scene_of}
use Rattle.tw_shown.specs.Shown.{outside}
use Rattle.tw_equation.specs.Text.{with_locals}
use Rattle.tw_equation.proofs.locals.name_locals.Given as goal

abbrev pub invariant-loop-variable : goal.invariant-loop-variable
invariant-loop-variable l = l.scope ≡ with_locals (scene_of l.env) (drop l.variable (take l.count l.context)) (outside l.variable l.shown) l.initial.scope
