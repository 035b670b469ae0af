use Rattle.tw_signature.proofs.Numbers.{entry_at_index}
use Rattle.tw_signature.proofs.signature.Signature.entry.Goals as goal

pub returns : goal.returns
returns c = rw (← c.self.view_is, ← c.deref.ensures.value) (entry_at_index c.deref.result.now c.args.id.0 c.get.result c.get.ensures.lookup)
