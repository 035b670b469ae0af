use Rattle.std.proofs.Common.{◌≡◌, ◌-◌, ℕ, suc, sym, ap, ◌∙◌, map, subst, false, arith}
use Rattle.lf_checks.specs.Marks.{input_places}
use Rattle.lf_checks.specs.Order.{chosen_at}
use Rattle.tw_clause.specs.View.{mark_of}
use Rattle.tw_decl.proofs.Ordered.{place_past, place_read, place_zero}
use Rattle.tw_decl.proofs.orders.is_input.Goals as goal

pub returns-then-place-eq0 : goal.returns-then-place-eq0
returns-then-place-eq0 c =
    let m = input_places (map mark_of c.args.marks.now) in
    let none : c.args.place ≡ 0 = omega (arith, c.if-place-eq0.true) in
    sym (ap (chosen_at m) none ∙ place_zero m)

pub returns-then-index-marks : goal.returns-then-index-marks
returns-then-index-marks c =
    let m = input_places (map mark_of c.args.marks.now) in
    let next : suc (c.args.place - 1) ≡ c.args.place = omega (arith, c.if-place-eq0.false) in
    sym (subst (λ (j : ℕ). chosen_at m j ≡ false) next (place_past c.args.marks.now (c.args.place - 1) c.if-index-marks.true))

pub returns : goal.returns
returns c =
    let m = input_places (map mark_of c.args.marks.now) in
    let next : suc (c.args.place - 1) ≡ c.args.place = omega (arith, c.if-place-eq0.false) in
    c.is_plus.ensures ∙ sym (place_read c.args.marks.now (c.args.place - 1) _ c.if-index-marks.false) ∙ ap (chosen_at m) next
