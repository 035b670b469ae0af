use Rattle.std.proofs.Common.{◌≡◌, map, take}
use Rattle.tw_metas.specs.View.{kept_equation_of}
use Rattle.tw_unify.specs.Sides.{AllLeft}
use Rattle.tw_unify.specs.Watching.{Watches, diary_of}
use Rattle.tw_unify.proofs.postponed.find_from.Given as goal

-- from the first place on, each of those so far is left
abbrev pub invariant-loop-at : goal.invariant-loop-at
invariant-loop-at l = record {
  watches : Watches l.store.now (diary_of l.watch);
  far : l.from ≡ 0 → AllLeft l.store.now (map kept_equation_of (take l.at l.equations));
}
