use Rattle.std.proofs.Common.{◌≡◌, Err, get_or, ap, ◌∙◌, sym}
use Rattle.tw_approx.specs.Answer.{rows_of}
use Rattle.tw_elaborate.specs.View.{numbers_of}
use Rattle.tw_hered.specs.declared.fault.HeredFault.TheVariants as reading
use Rattle.tw_terms.specs.View.{skeleton_of}
use Rattle.tw_recon.specs.Names.{nothing_named}
use Rattle.tw_recon.specs.NamingView.{naming_of}
use Rattle.tw_recon.proofs.Naming.{member_at, names_its, names_next, names_no_row, names_nothing, number_at, number_none, row_found, row_none}
use Rattle.tw_recon.proofs.names.names.Goals as goal
use Rattle.tw_recon.proofs.names.names.Goals.{in-Some+in-Some-get+in-Ok, in-Some+in_default-get, in_default}

pub loop-place-preserved : goal.loop-place-preserved
loop-place-preserved c =
    let s = c.args.store.now.now in
    let frees = numbers_of c.args.frees.now in
    let rows = rows_of c.args.rows.now in
    let k = c.loop-place.place-index in
    let i = get_or c.args.order.now k 0 in
    let old = naming_of c.loop-place.naming in
    let new = naming_of c.match-get.naming in
    elim c.match-get.branch [
      | in-Some+in-Some-get+in-Ok w ↦
          let m = w.in-Some.meta.now in
          let r = w.in-Some-get.row.now in
          names_next s frees rows c.args.order.now k nothing_named old new c.loop-place-test.true c.loop-place.invariant
          (names_its s frees rows i m.0 (r.name, skeleton_of r.skeleton) old new (number_at c.args.frees.now i m w.in-Some.ensures.lookup.3.0 (sym w.in-Some.ensures.lookup.1)) (row_found c.args.rows.now i r w.in-Some-get.ensures.lookup.3.0 (sym w.in-Some-get.ensures.lookup.1)) (let (n, z, e) = w.in-Ok.ensures.named in (n, z, ap naming_of w.naming-is ∙ e)))
      | in-Some+in_default-get w ↦
          let m = w.in-Some.meta.now in
          names_next s frees rows c.args.order.now k nothing_named old new c.loop-place-test.true c.loop-place.invariant
          (names_no_row s frees rows i m.0 old new (number_at c.args.frees.now i m w.in-Some.ensures.lookup.3.0 (sym w.in-Some.ensures.lookup.1)) (row_none c.args.rows.now i w.in_default-get.ensures.lookup.3) (ap naming_of w.naming-is))
      | in_default w ↦
          names_next s frees rows c.args.order.now k nothing_named old new c.loop-place-test.true c.loop-place.invariant
          (names_nothing s frees rows i old new (number_none c.args.frees.now i w.in_default.ensures.lookup.3) (ap naming_of w.naming-is))
    ]

pub returns-in-Err-clause-too_deep : goal.returns-in-Err-clause-too_deep
returns-in-Err-clause-too_deep c = λ e.
    let p : c.in-Err.fault ≡ reading.TooDeep = cc in
    let (N, v, d) = c.in-Err.ensures.too_deep (ap Err p) in
    (c.in-Some.meta.now.0, N, member_at c.args.frees.now (get_or c.args.order.now c.loop-place.place-index 0) c.in-Some.meta.now c.in-Some.ensures.lookup.3.0 (sym c.in-Some.ensures.lookup.1), v, d)
