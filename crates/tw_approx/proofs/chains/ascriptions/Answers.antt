use Rattle.tw_parse.specs.View.{term_of}
use Rattle.tw_approx.proofs.Ascribing.{next_type}
use Rattle.tw_approx.proofs.chains.ascriptions.Goals as goal

pub loop-rest-preserved : goal.loop-rest-preserved
loop-rest-preserved c =
    next_type c.loop-rest.rest.now c.deref-rest.result.now c.in-Ascribe.inner c.in-Ascribe.ty c.loop-rest.types.items c.push.new.self.items c.deref.result (term_of c.args.term.now)
    c.in-Ascribe.is c.deref-rest.ensures c.deref.ensures c.in_ok-push.ensures.items c.loop-rest.invariant
