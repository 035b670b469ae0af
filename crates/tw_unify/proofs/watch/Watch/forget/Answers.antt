use Rattle.tw_unify.specs.Watching.{diary_of}
use Rattle.tw_unify.proofs.Watching.{without_watches}
use Rattle.tw_unify.proofs.watch.Watch.forget.Goals as goal

pub returns : goal.returns
returns c = λ s w. without_watches s (diary_of c.args.self.now) _ c.args.at c.remove.ensures.items w
