use Rattle.tw_prune.proofs.Meanings.{differences_mean}
use Rattle.tw_prune.proofs.Options.{if_ok}
use Rattle.tw_prune.proofs.compare.differences.Goals as goal

pub returns : goal.returns
returns c = if_ok c.different_places.result _ _ (λ v e. differences_mean c.args.left.now c.args.right.now v.items e) c.different_places.ensures
