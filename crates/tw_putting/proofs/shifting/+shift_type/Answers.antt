use Rattle.std.proofs.Common.{◌≡◌, ◌+◌, IfOk, ap, ap₂, ◌∙◌, sym, subst, arith}
use Rattle.lf.specs.AtOnce.{lift_renaming_by, shift_by}
use Rattle.lf.specs.Syntax.{pi, rename_type}
use Rattle.tw_terms.specs.OpenView.{open_type_of}
use Rattle.tw_putting.proofs.Shifts.{range_moves, shifts}
use Rattle.tw_putting.proofs.shifting.+shift_type.Goals as goal

pub returns-in_ok-range-in-Pi : goal.returns-in_ok-range-in-Pi
returns-in_ok-range-in-Pi t c =
    let e : open_type_of c.args.ty.now ≡ pi (open_type_of c.deref.result.now) (open_type_of c.deref-in-Pi.result.now) = grind (arith, shifts) in
    let i : c.in_ok-inside-in-Pi.inside ≡ c.args.from + 1 = c.in_ok-inside-in-Pi.ensures in
    let r = ap₂ pi c.in_ok-domain-in-Pi.ensures (c.in_ok-range-in-Pi.ensures ∙ ap (λ n. rename_type (lift_renaming_by n (shift_by c.args.by)) (open_type_of c.deref-in-Pi.result.now)) i) ∙ sym (range_moves c.args.from c.args.by (open_type_of c.deref.result.now) (open_type_of c.deref-in-Pi.result.now)) ∙ sym (ap (rename_type (lift_renaming_by c.args.from (shift_by c.args.by))) e) in
    subst (λ X. IfOk c.pi.result (λ a. open_type_of a ≡ X)) r c.pi.ensures
