use Rattle.std.proofs.Common.{Some, map}
use Rattle.lf.specs.Entries.{signature_of}
use Rattle.tw_metas.specs.View.{equation_of}
use Rattle.tw_putting.proofs.Readiness.{ready_scoped}
use Rattle.tw_unify.specs.Watching.{diary_of}
use Rattle.tw_unify.proofs.Watching.{known_left, nothing_bound, same_count, scoped_alone, start_watches}
use Rattle.tw_unify.proofs.solving.solve_more.Goals as goal

pub solve_watched-requires-clause-watches : goal.solve_watched-requires-clause-watches
solve_watched-requires-clause-watches c =
    let s = c.args.store.now.now in
    let w = c.in_ok-watch.watch in
    let given = map equation_of c.args.equations.items in
    start_watches s (diary_of w) (Some 0) (same_count (Some 0) c.equations.result.now s.equations w.found.items c.equations.ensures c.in_ok-watch.ensures.found) (nothing_bound w.bound c.in_ok-watch.ensures.bound)
    (known_left s (diary_of w) c.in_ok-watch.ensures.time (scoped_alone s given (ready_scoped (signature_of c.args.signature.now) given s c.requires.ready)) c.requires.left)
