use Rattle.std.proofs.Common.{map}
use Rattle.tw_abstract.proofs.Noting.{argument_listed}
use Rattle.tw_abstract.proofs.listing.+listing.Goals as goal

pub list_spine-loop-arg-preserved : goal.list_spine-loop-arg-preserved
list_spine-loop-arg-preserved t c = argument_listed _ (map (λ n. n.0) c.loop-arg.list.items) (map (λ n. n.0) c.list_term.new.list.items) c.deref-arg-items.result.now c.loop-arg.arg-index c.arg-item.result c.loop-arg-test.true c.arg-item.is c.in_ok-list_term.ensures c.loop-arg.invariant
