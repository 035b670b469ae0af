use Rattle.lf.specs.Syntax.{nil}
use Rattle.lf_unification.specs.Outside.{Holds}
use Rattle.tw_terms.specs.View.{spine_of}
use Rattle.tw_search.specs.Applied.{taken_at}
use Rattle.tw_search.specs.Reducing.{is_loose}
use Rattle.tw_search.proofs.GivingPairs.{rest_mentions}
use Rattle.tw_search.proofs.giving.+mentions.Goals as goal

pub all_mention_loose-loop-arg-preserved : goal.all_mention_loose-loop-arg-preserved
all_mention_loose-loop-arg-preserved t c =
    rest_mentions (λ k. Holds (is_loose c.args.store.now.now c.args.goal.0 k)) (taken_at nil c.args.metas.now 0) c.deref-arg-items.result.now c.loop-arg.arg-index c.arg-item.result (spine_of c.args.spine.now)
    c.loop-arg-test.true c.arg-item.is c.if-not-mentions_loose.ensures c.loop-arg.invariant
