use Rattle.std.proofs.Common.{None}
use Rattle.tw_unify.specs.Watching.{diary_of}
use Rattle.tw_unify.proofs.Watching.{nothing_bound, same_count, start_watches}
use Rattle.tw_unify.proofs.solving.solve.Goals as goal

pub solve_watched-requires-clause-watches : goal.solve_watched-requires-clause-watches
solve_watched-requires-clause-watches c =
    let s = c.args.store.now.now in
    let w = c.in_ok-watch.watch in
    start_watches s (diary_of w) None (same_count None c.equations.result.now s.equations w.found.items c.equations.ensures c.in_ok-watch.ensures.found) (nothing_bound w.bound c.in_ok-watch.ensures.bound) (λ e i. tt)
