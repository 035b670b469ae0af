use Rattle.std.proofs.Common.{◌≡◌, ◌<◌, drop}
use Rattle.lf_checks.specs.Order.{place_type}
use Rattle.tw_terms.specs.View.{args_of, kind_of, spine_of}
use Rattle.tw_order.specs.Places.{KindTakesAll}
use Rattle.tw_order.proofs.places.kind_place.Given as goal

abbrev pub invariant-loop-arg : goal.invariant-loop-arg
invariant-loop-arg l = record {
  some : 0 < l.left;
  same : place_type l.left (args_of (drop l.arg-index l.arg-items)) (kind_of l.rest) ≡ place_type l.place (spine_of l.spine) (kind_of l.kind);
  takes : KindTakesAll (kind_of l.rest) (args_of (drop l.arg-index l.arg-items));
}
