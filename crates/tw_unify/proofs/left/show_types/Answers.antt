use Rattle.std.proofs.Common.{◌≡◌, ◌<◌, Err, Some, [], length, refl, subst, arith, rules}
use Rattle.std.proofs.lemmas.Option.{slice_get_read}
use Rattle.std.specs.Prelude.{slice_get}
use Rattle.tw_terms.specs.OpenView.{open_type_of}
use Rattle.tw_unify.specs.Showing.{NeedsTypeOf}
use Rattle.tw_unify.proofs.Shown.{blames_next, metas_step, still_within, types_grown}
use Rattle.tw_unify.proofs.left.show_types.Goals as goal

pub returns-in_err-shown-clause-shown : goal.returns-in_err-shown-clause-shown
returns-in_err-shown-clause-shown c =
    let f = c.in_err-shown.field-0.0 in
    let m = c.index.result.now in
    let xs = c.loop.order.items in
    let i : c.len-in-loop-2.result ≡ length c.loop.metas.items = omega (arith, c.len-in-loop-2.ensures) in
    let h : c.len-in-loop-2.result < length xs = omega (arith, i, c.if-len.false, c.len.ensures, c.len-in-loop.ensures) in
    let e : slice_get xs (length c.loop.metas.items) ≡ Some m = subst (λ j. slice_get xs j ≡ Some m) i (slice_get_read xs (length xs) c.len-in-loop-2.result m refl h c.index.ensures) in
    let q : c.from_residual.result ≡ Err f = search rules in
    rw q (blames_next f c.args.store.now.now c.args.order.now.items c.loop.order.items (length c.loop.metas.items) m c.loop.invariant.grown e c.in_err-shown.ensures.shown)

pub loop-preserved : goal.loop-preserved
loop-preserved c =
    let s = c.args.store.now.now in
    let xs = c.loop.order.items in
    let ys = c.show_type.new.order.items in
    let ms = c.loop.metas.items in
    let ns = c.add_type.new.metas.items in
    let m = c.index.result.now in
    let B = open_type_of c.in_ok-shown.shown in
    let h : length ms < length xs = omega (arith, c.if-len.false, c.len.ensures, c.len-in-loop.ensures) in
    let i : c.len-in-loop-2.result ≡ length ms = omega (arith, c.len-in-loop-2.ensures) in
    let k : c.len-in-loop-2.result < length xs = omega (arith, h, i) in
    let e : slice_get xs (length ms) ≡ Some m = subst (λ j. slice_get xs j ≡ Some m) i (slice_get_read xs (length xs) c.len-in-loop-2.result m refl k c.index.ensures) in
    record {
      shows = metas_step s (NeedsTypeOf s m) xs ys ms ns m B c.in_ok-shown.ensures.grown h e c.in_ok-add_type.ensures c.loop.invariant.shows c.in_ok-shown.ensures.shown;
      within = still_within (NeedsTypeOf s m) xs ys ms ns ([], B) c.in_ok-shown.ensures.grown h c.in_ok-add_type.ensures;
      grown = types_grown s c.args.order.now.items xs ys (length ms) m c.loop.invariant.grown e c.in_ok-shown.ensures.grown;
    }
