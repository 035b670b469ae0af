use Rattle.std.proofs.Common.{◌≡◌, ◌-◌, drop, length}
use Rattle.tw_unify.specs.Showing.{Grows, NeedsLocals, ShowsLocals}
use Rattle.tw_unify.proofs.left.show_context.Given as goal

-- the outer types so far
abbrev pub invariant-loop-place : goal.invariant-loop-place
invariant-loop-place l = record {
  all : l.count ≡ length l.context;
  shows : ShowsLocals l.store.now l.order.items (drop (l.count - l.place) l.context) l.shown;
  grown : Grows (NeedsLocals l.store.now (drop (l.count - l.place) l.context)) l.fn.order.items l.order.items;
}
