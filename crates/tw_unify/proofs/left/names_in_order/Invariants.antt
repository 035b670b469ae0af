use Rattle.std.proofs.Common.{◌≡◌, map, take}
use Rattle.tw_metas.specs.Named.{named_of}
use Rattle.tw_unify.specs.Showing.{name_of}
use Rattle.tw_unify.proofs.left.names_in_order.Given as goal

abbrev pub invariant-loop-meta : goal.invariant-loop-meta
invariant-loop-meta l = l.found.items ≡ map (name_of (map named_of l.names)) (take l.meta-index l.order)
