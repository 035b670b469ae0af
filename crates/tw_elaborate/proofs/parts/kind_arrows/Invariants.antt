use Rattle.std.proofs.Common.{vec_len}
use Rattle.tw_open.specs.View.{open_kind_of}
use Rattle.tw_elaborate.proofs.Arrows.{KindArrowsMade}
use Rattle.tw_elaborate.proofs.parts.kind_arrows.Given as goal

-- the arrows from the types that are taken off
abbrev pub invariant-loop-domain : goal.invariant-loop-domain
invariant-loop-domain l = KindArrowsMade l.fn.domains.items l.left.items (open_kind_of l.end) (open_kind_of l.kind)

abbrev pub decreases-loop-domain : goal.decreases-loop-domain
decreases-loop-domain l = vec_len l.left
