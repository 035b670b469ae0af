use Rattle.std.proofs.Common.{◌≤◌, length, map, take}
use Rattle.tw_metas.specs.Named.{shown_type_of}
use Rattle.tw_unify.specs.Showing.{Grows, NeedsTypes, ShowsMetavariables}
use Rattle.tw_unify.proofs.left.show_types.Given as goal

-- the types so far
abbrev pub invariant-loop : goal.invariant-loop
invariant-loop l = record {
  shows : ShowsMetavariables l.store.now l.order.items (take (length l.metas.items) l.order.items) (map shown_type_of l.metas.items);
  within : length l.metas.items ≤ length l.order.items;
  grown : Grows (NeedsTypes l.store.now) l.fn.order.items l.order.items;
}
