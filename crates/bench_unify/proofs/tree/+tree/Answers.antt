use Rattle.std.proofs.Common.{arith}
use Rattle.bench_unify.proofs.Trees.{places_kept}
use Rattle.bench_unify.proofs.tree.+tree.Goals as goal

pub branch-walk-requires : goal.branch-walk-requires
branch-walk-requires t c = (grind arith, places_kept c.args.store.now c.fresh.new.self c.bind.new.self _ _ _ _ c.requires c.in_ok-meta.ensures.ok c.in_ok-bind.ensures.ok)
