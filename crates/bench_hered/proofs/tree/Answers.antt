use Rattle.bench_hered.proofs.Typed.{pair_typed}
use Rattle.bench_hered.proofs.tree.Goals as goal

pub loop-preserved : goal.loop-preserved
loop-preserved c = pair_typed _ _ c.in_ok-tree.ensures c.loop.invariant
