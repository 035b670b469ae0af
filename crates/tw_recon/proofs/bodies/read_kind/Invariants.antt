use Rattle.tw_open.specs.View.{open_kind_of}
use Rattle.tw_recon.proofs.Domains.{ReadsOn}
use Rattle.tw_recon.proofs.bodies.read_kind.Given as goal

abbrev pub invariant-loop-rest : goal.invariant-loop-rest
invariant-loop-rest l = ReadsOn l.store.now l.quantifiers.positions (open_kind_of l.kind) (open_kind_of l.rest) l.domains.items
