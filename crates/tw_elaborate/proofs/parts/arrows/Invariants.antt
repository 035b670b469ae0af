use Rattle.std.proofs.Common.{vec_len}
use Rattle.tw_terms.specs.OpenView.{open_type_of}
use Rattle.tw_elaborate.proofs.Arrows.{ArrowsMade}
use Rattle.tw_elaborate.proofs.parts.arrows.Given as goal

-- the arrows from the types that are taken off
abbrev pub invariant-loop-domain : goal.invariant-loop-domain
invariant-loop-domain l = ArrowsMade l.fn.domains.items l.left.items (open_type_of l.end) (open_type_of l.ty)

abbrev pub decreases-loop-domain : goal.decreases-loop-domain
decreases-loop-domain l = vec_len l.left
