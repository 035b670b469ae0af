use Rattle.std.proofs.Common.{◌≡◌, map, take}
use Rattle.tw_metas.specs.Named.{named_of}
use Rattle.tw_recon.specs.Names.{named_from}
use Rattle.tw_recon.proofs.names.named.Given as goal

abbrev pub invariant-loop-number : goal.invariant-loop-number
invariant-loop-number l = map named_of l.named.items ≡ named_from 0 (take l.number l.names)
