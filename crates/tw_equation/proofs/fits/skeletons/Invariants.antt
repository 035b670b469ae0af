use Rattle.std.proofs.Common.{◌≡◌, ◌++◌, drop, map}
use Rattle.lf.specs.Skeletons.{context_skeletons}
use Rattle.tw_terms.specs.View.{skeleton_of}
use Rattle.tw_equation.proofs.fits.skeletons.Given as goal

abbrev pub invariant-loop-variable : goal.invariant-loop-variable
invariant-loop-variable l = map skeleton_of l.skeletons.items ++ context_skeletons (drop l.variable l.context) ≡ context_skeletons l.context
