use Rattle.std.proofs.Common.{◌≡◌, ◌++◌, drop, map}
use Rattle.tw_metas.specs.Named.{named_of}
use Rattle.tw_unify.specs.Showing.{unbound_of}
use Rattle.tw_unify.proofs.left.unbound.Given as goal

-- those that were found, and those of what is left
abbrev pub invariant-loop-meta : goal.invariant-loop-meta
invariant-loop-meta l = l.order.items ++ unbound_of l.store.now (map named_of (drop l.meta-index l.names)) ≡ unbound_of l.store.now (map named_of l.names)
