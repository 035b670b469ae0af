use Rattle.std.proofs.Common.{◌≡◌, drop, map}
use Rattle.tw_metas.specs.Named.{named_of}
use Rattle.tw_unify.specs.Showing.{name_of}
use Rattle.tw_unify.proofs.left.name_for.Given as goal

-- the name stands among the others
abbrev pub invariant-loop-named : goal.invariant-loop-named
invariant-loop-named l = name_of (map named_of (drop l.named-index l.names)) l.meta ≡ name_of (map named_of l.names) l.meta
