use Rattle.std.proofs.Common.{refl}
use Rattle.tw_print.specs.ShowEnv.{scene_of}
use Rattle.tw_shown.specs.Due.{stacked}
use Rattle.tw_shown.proofs.Dues.{pi_begun}
use Rattle.tw_shown.proofs.Walking.{on_ok}
use Rattle.tw_terms.specs.View.{type_of}
use Rattle.tw_shown.proofs.showing.begin_pi.Goals as goal

pub returns : goal.returns
returns c =
    on_ok c.push-4.result _ _
    (pi_begun (scene_of c.args.env.now) c.args.inner c.args.walk.now (type_of c.args.domain) (type_of c.args.range) (stacked c.args.due.now.items) c.args.domain c.args.range c.in_ok-entered.entered (stacked c.push.new.due.items) (stacked c.push-2.new.due.items) (stacked c.push-3.new.due.items) (stacked c.push-4.new.due.items)
    refl refl c.in_ok-entered.ensures c.in_ok-push.ensures c.in_ok-push-2.ensures c.in_ok-push-3.ensures c.requires.typed c.requires.fits)
    c.push-4.ensures
