use Rattle.std.proofs.Common.{sym, subst}
use Rattle.lf.specs.Entries.{signature_of}
use Rattle.tw_print.specs.Due.{AllFit, Goes, stacked}
use Rattle.tw_print.specs.SceneView.{scene_in}
use Rattle.tw_print.proofs.Dues.{goes_nowhere, goes_then}
use Rattle.tw_print.proofs.print.write_due.Goals as goal

pub loop-init : goal.loop-init
loop-init c = goes_nowhere (scene_in c.args.scene.now) c.args.page.now (stacked c.args.due.items) c.requires.context c.requires.fits

pub write_next-requires-clause-context : goal.write_next-requires-clause-context
write_next-requires-clause-context c = c.loop.invariant.shown

pub write_next-requires-clause-fits : goal.write_next-requires-clause-fits
write_next-requires-clause-fits c = subst (AllFit (signature_of (scene_in c.args.scene.now).entries) c.loop.page.context) c.in-Some.ensures c.loop.invariant.fits

pub loop-preserved : goal.loop-preserved
loop-preserved c =
    let s = scene_in c.args.scene.now in
    goes_then s c.args.page.now c.loop.page c.write_next.new.page (stacked c.args.due.items) (stacked c.loop.left.items) (stacked c.write_next.new.due.items) c.loop.invariant
    (subst (λ ds. Goes s c.loop.page c.write_next.new.page ds (stacked c.write_next.new.due.items)) (sym c.in-Some.ensures) c.in_ok-write_next-in-Some.ensures)

pub returns-in-None : goal.returns-in-None
returns-in-None c = subst (Goes (scene_in c.args.scene.now) c.args.page.now c.loop.page (stacked c.args.due.items)) c.in-None.ensures c.loop.invariant
