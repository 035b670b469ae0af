use Rattle.tw_signature.specs.View.{entry_of}
use Rattle.tw_decl.proofs.Standing.{stand_later}
use Rattle.tw_decl.proofs.session.Session.keep.Goals as goal

pub invariant_of-self-2 : goal.invariant_of-self-2
invariant_of-self-2 c = (c.is_canonical.ensures, stand_later (entry_of c.args.entry) _ _ _ _ c.in_ok-add.ensures.added c.self.invariant.1)
