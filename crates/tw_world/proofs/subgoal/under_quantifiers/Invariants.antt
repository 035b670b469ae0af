use Rattle.std.proofs.Common.{◌≡◌}
use Rattle.lf.specs.Variables.{binders}
use Rattle.tw_terms.specs.View.{type_of}
use Rattle.tw_world.proofs.subgoal.under_quantifiers.Given as goal

abbrev pub invariant-loop-rest : goal.invariant-loop-rest
invariant-loop-rest l = binders l.context (type_of l.rest) ≡ binders l.outer (type_of l.ty)
