use Rattle.lf_coverage.proofs.StoreSkeletons.{stores_have_skeletons}
use Rattle.lf_coverage.proofs.stores_have_skeletons.Goals as goal

pub returns : goal.returns
returns c = stores_have_skeletons
