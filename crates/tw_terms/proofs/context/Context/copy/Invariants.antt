use Rattle.std.proofs.Common.{◌≡◌, take, map}
use Rattle.tw_terms.specs.View.{type_of}
use Rattle.tw_terms.proofs.context.Context.copy.Given as goal

abbrev pub invariant-loop-ty : goal.invariant-loop-ty
invariant-loop-ty l = map type_of l.types.items ≡ map type_of (take l.ty-index l.ty-items)
