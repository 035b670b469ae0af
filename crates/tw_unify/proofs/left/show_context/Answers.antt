use Rattle.std.proofs.Common.{◌≡◌, ap, ◌-◌, ◌+◌, suc, subst, Err, Some, length, arith, rules}
use Rattle.std.specs.Prelude.{slice_get}
use Rattle.tw_terms.specs.OpenView.{open_type_of}
use Rattle.tw_unify.specs.Faults.{fault_of}
use Rattle.tw_unify.proofs.Shown.{blames_at, context_grown, context_step, takes_at}
use Rattle.tw_unify.proofs.left.show_context.Goals as goal

pub put_in_type-requires : goal.put_in_type-requires
put_in_type-requires c =
    let D = c.args.context.now in
    let n = c.len-count.result - 1 - c.loop-place.place in
    let A = open_type_of c.unwrap-ty.result.now in
    let e : slice_get D n ≡ Some A = search rules in
    takes_at c.args.store.now.now D n c.loop-place.place A e (omega (arith, c.loop-place-test.true, c.loop-place.invariant.all)) c.requires

pub returns-in_err-put-clause-shown : goal.returns-in_err-put-clause-shown
returns-in_err-put-clause-shown c =
    let D = c.args.context.now in
    let n = c.len-count.result - 1 - c.loop-place.place in
    let A = open_type_of c.unwrap-ty.result.now in
    let e : slice_get D n ≡ Some A = search rules in
    let f = c.in_err-put.field-0.0 in
    let q : c.from_residual.result ≡ Err (fault_of f) = search rules in
    rw q (blames_at f c.args.store.now.now D n c.loop-place.place A e (omega (arith, c.loop-place-test.true, c.loop-place.invariant.all)) (λ i. c.in_err-put.ensures.too_deep (ap Err i)))

pub loop-place-preserved : goal.loop-place-preserved
loop-place-preserved c =
    let D = c.args.context.now in
    let s = c.args.store.now.now in
    let n = c.len-count.result - (c.loop-place.place + 1) in
    let j = c.len-count.result - c.loop-place.place in
    let A = open_type_of c.unwrap-ty.result.now in
    let P = open_type_of c.in_ok-put.put in
    let m = c.len-count.result - 1 - c.loop-place.place in
    let q : m ≡ n = omega arith in
    let e' : slice_get D m ≡ Some A = search rules in
    let e : slice_get D n ≡ Some A = subst (λ i. slice_get D i ≡ Some A) q e' in
    let i : j ≡ suc n = omega (arith, c.loop-place-test.true, c.loop-place.invariant.all) in
    let p : c.loop-place.place ≡ length D - suc n = omega (arith, c.loop-place-test.true, c.loop-place.invariant.all) in
    record {
      all = c.loop-place.invariant.all;
      shows = context_step s c.loop-place.order.items c.number_type.new.order.items D c.loop-place.shown c.push.new.self n j c.loop-place.place A P (open_type_of c.in_ok-numbered.numbered) e i p c.loop-place.invariant.shows c.in_ok-put.ensures.ok c.in_ok-numbered.ensures.numbered c.in_ok-numbered.ensures.grown c.in_ok-push.ensures.ok;
      grown = context_grown s c.args.order.now.items c.loop-place.order.items c.number_type.new.order.items D n j c.loop-place.place A P e i p c.in_ok-put.ensures.ok c.loop-place.invariant.grown c.in_ok-numbered.ensures.grown;
    }
