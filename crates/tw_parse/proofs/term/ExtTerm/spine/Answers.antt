use Rattle.tw_parse.specs.View.{term_of}
use Rattle.tw_parse.proofs.Spines.{next_argument}
use Rattle.tw_parse.proofs.term.ExtTerm.spine.Goals as goal

pub loop-head-preserved : goal.loop-head-preserved
loop-head-preserved c =
    next_argument c.loop-head.head.now c.deref-head.result.now c.in-App.function c.in-App.argument c.loop-head.arguments.items c.push.new.self.items c.deref.result (term_of c.args.self.now)
    c.in-App.is c.deref-head.ensures c.deref.ensures c.in_ok-push.ensures.items c.loop-head.invariant
