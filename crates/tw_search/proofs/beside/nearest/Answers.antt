use Rattle.tw_search.specs.Beside.{leads_to_itself}
use Rattle.tw_search.proofs.BesideWalks.{leads_on}
use Rattle.tw_search.proofs.beside.nearest.Goals as goal

pub loop-init : goal.loop-init
loop-init c = leads_to_itself

pub loop-preserved : goal.loop-preserved
loop-preserved c = leads_on c.loop.invariant c.in-Some.ensures
