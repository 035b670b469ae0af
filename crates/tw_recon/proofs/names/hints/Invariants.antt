use Rattle.std.proofs.Common.{◌≡◌, take}
use Rattle.tw_elaborate.specs.View.{numbers_of}
use Rattle.tw_recon.specs.Names.{names_of}
use Rattle.tw_recon.proofs.names.hints.Given as goal

abbrev pub invariant-loop-meta : goal.invariant-loop-meta
invariant-loop-meta l = l.hints.items ≡ names_of l.names (numbers_of (take l.meta-index l.metas))
