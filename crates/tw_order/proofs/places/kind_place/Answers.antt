use Rattle.std.proofs.Common.{◌+◌, ◌-◌, ap, arith, drop}
use Rattle.std.proofs.Math.ListN.{drop_of_length-le}
use Rattle.lf_checks.specs.Order.{place_type}
use Rattle.tw_kernel.proofs.Spines.{args_at}
use Rattle.tw_terms.specs.View.{args_of, kind_of, spine_of, term_of}
use Rattle.tw_order.proofs.Arguments.{kind_end, kind_step}
use Rattle.tw_order.proofs.places.kind_place.Goals as goal

pub loop-arg-preserved : goal.loop-arg-preserved
loop-arg-preserved c =
    let items = c.deref-arg-items.result.now in
    let k = c.loop-arg.arg-index in
    let i = c.loop-arg.invariant in
    let (a, b, d) = kind_step c.loop-arg.left (c.loop-arg.left - 1) (args_of (drop k items)) (args_of (drop (k + 1) items)) (term_of c.arg-item.result) (kind_of c.loop-arg.rest) (kind_of c.in_ok-rest-2.rest) (place_type c.args.place (spine_of c.args.spine.now) (kind_of c.args.kind.now)) (args_at items k c.arg-item.result (omega arith) c.arg-item.is) c.if-left-eq1.false i.some (omega arith) c.in_ok-rest-2.ensures i.same i.takes in
    record { some = a; same = b; takes = d }

pub returns : goal.returns
returns c =
    let items = c.deref-arg-items.result.now in
    let i = c.loop-arg.invariant in
    kind_end c.loop-arg.left (args_of (drop c.loop-arg.arg-index items)) (kind_of c.loop-arg.rest) _ (ap args_of (drop_of_length-le items (omega arith))) i.some i.same
