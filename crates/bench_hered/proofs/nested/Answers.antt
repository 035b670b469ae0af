use Rattle.bench_hered.proofs.Typed.{applied_typed}
use Rattle.bench_hered.proofs.nested.Goals as goal

pub loop-preserved : goal.loop-preserved
loop-preserved c = applied_typed _ _ c.in_ok-nested.ensures c.loop.invariant
