use Rattle.std.proofs.Common.{map}
use Rattle.lf.specs.Entries.{signature_of}
use Rattle.lf_unification.specs.ReachedRuns.{ReachedRun}
use Rattle.tw_metas.specs.View.{equation_of}
use Rattle.tw_unify.specs.Outcomes.{stacked}
use Rattle.tw_putting.specs.Ready.{IsLater}
use Rattle.tw_putting.specs.Whole.{IsConsistent, whole}
use Rattle.tw_unify.specs.Reaching.{IsKnown, marking_of}
use Rattle.tw_unify.specs.Watching.{Watches, diary_of}
use Rattle.tw_unify.proofs.solving.solve_watched.Given as goal

-- steps led here, what the occurs check met is known, and nothing was taken back
abbrev pub invariant-loop : goal.invariant-loop
invariant-loop l = record {
  run : ReachedRun (signature_of l.signature) (whole (map equation_of l.fn.equations.items) l.fn.store.now) (whole (stacked l.work.items) l.store.now);
  consistent : IsConsistent l.store.now;
  known : IsKnown l.store.now (marking_of l.met);
  watches : Watches l.store.now (diary_of l.watch);
  story : IsLater l.fn.store l.store;
}
