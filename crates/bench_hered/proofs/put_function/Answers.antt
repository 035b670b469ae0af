use Rattle.bench_hered.proofs.Typed.{closed_fits}
use Rattle.bench_hered.proofs.put_function.Goals as goal

pub substitute-requires : goal.substitute-requires
substitute-requires c = closed_fits _ _ _ _ c.in_ok-skeleton.ensures c.requires.function c.requires.nested
