use Rattle.std.proofs.Common.{◌≡◌, take}
use Rattle.tw_elaborate.specs.View.{numbers_of}
use Rattle.tw_recon.specs.Names.{variables_of}
use Rattle.tw_recon.proofs.names.shown.Given as goal

abbrev pub invariant-loop-meta : goal.invariant-loop-meta
invariant-loop-meta l = l.shown.items ≡ variables_of l.quantifiers (numbers_of (take l.meta-index l.metas))
