use Rattle.std.proofs.Common.{sym, subst}
use Rattle.lf.specs.Entries.{signature_of}
use Rattle.tw_print.specs.ShowEnv.{scene_of}
use Rattle.tw_shown.specs.Due.{AllFit, Goes, stacked}
use Rattle.tw_shown.proofs.Dues.{goes_nowhere, goes_then}
use Rattle.tw_shown.proofs.showing.walk_due.Goals as goal

pub loop-init : goal.loop-init
loop-init c = goes_nowhere (scene_of c.args.env.now) c.args.walk.now (stacked c.args.due.items) c.requires.context c.requires.fits

pub walk_next-requires-clause-context : goal.walk_next-requires-clause-context
walk_next-requires-clause-context c = c.loop.invariant.showable

pub walk_next-requires-clause-fits : goal.walk_next-requires-clause-fits
walk_next-requires-clause-fits c = subst (AllFit (signature_of c.args.env.now.sig.now) c.loop.walk.context) c.in-Some.ensures c.loop.invariant.fits

pub loop-preserved : goal.loop-preserved
loop-preserved c =
    let s = scene_of c.args.env.now in
    goes_then s c.args.walk.now c.loop.walk c.walk_next.new.walk (stacked c.args.due.items) (stacked c.loop.left.items) (stacked c.walk_next.new.due.items) c.loop.invariant
    (subst (λ ds. Goes s c.loop.walk c.walk_next.new.walk ds (stacked c.walk_next.new.due.items)) (sym c.in-Some.ensures) c.in_ok-walk_next-in-Some.ensures)

pub returns-in-None : goal.returns-in-None
returns-in-None c = subst (Goes (scene_of c.args.env.now) c.args.walk.now c.loop.walk (stacked c.args.due.items)) c.in-None.ensures c.loop.invariant
