use Rattle.std.proofs.Common.{◌+◌, ◌*◌}
use Rattle.bench_unify.proofs.tree.+tree.Given as goal

abbrev pub decreases-branch : goal.decreases-branch
decreases-branch l = 2 * l.levels + 1

abbrev pub decreases-walk : goal.decreases-walk
decreases-walk l = 2 * l.levels
