use Rattle.std.proofs.Common.{refl}
use Rattle.tw_unify.specs.Watching.{diary_of}
use Rattle.tw_unify.proofs.Watching.{renewed_watches}
use Rattle.tw_unify.proofs.watch.Watch.renew.Goals as goal

pub returns : goal.returns
returns c = λ s w l. renewed_watches s (diary_of c.args.self.now) _ c.args.at refl w l
