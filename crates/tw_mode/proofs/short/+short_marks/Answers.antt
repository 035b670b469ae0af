use Rattle.std.proofs.Common.{◌≡◌, ◌∙◌, ◌-◌, ap, arith, map, suc}
use Rattle.lf.specs.Syntax.{kind_pi, star}
use Rattle.lf_checks.specs.ModeForms.{implicit_mark as mark_of_implicit}
use Rattle.tw_clause.specs.View.{mark_of}
use Rattle.tw_terms.specs.View.{kind_of, type_of}
use Rattle.tw_terms.proofs.Args.{types}
use Rattle.tw_mode.proofs.Completing.{completed_next, completed_star}
use Rattle.tw_clause.proofs.Patterns.{on_value}
use Rattle.tw_mode.proofs.short.+short_marks.Goals as goal

pub returns-in_ok-implicit_mark-in-Pi : goal.returns-in_ok-implicit_mark-in-Pi
returns-in_ok-implicit_mark-in-Pi t c =
    let rest = map mark_of c.in_ok-rest-in-Pi.rest.items in
    let range = kind_of c.deref.result.now in
    let n : c.args.implicit ≡ suc (c.args.implicit - 1) = omega arith in
    let k : kind_of c.args.kind.now ≡ kind_pi (type_of c.in-Pi.field-0.value) range = grind (arith, types) in
    let again : kind_of c.deref-in-Pi-2.result.now ≡ range = grind (arith, types) in
    let mark = c.in_ok-implicit_mark-in-Pi.ensures ∙ ap (λ xs. mark_of_implicit (map mark_of xs) (kind_of c.deref-in-Pi-2.result.now)) c.deref-in-Pi.ensures.value ∙ ap (mark_of_implicit rest) again in
    on_value c.with_first.result _ _ (λ v h. ap (map mark_of) h ∙ completed_next c.args.implicit (c.args.implicit - 1) (map mark_of c.args.explicit.now) rest (mark_of c.in_ok-implicit_mark-in-Pi.field-0) (kind_of c.args.kind.now) range (type_of c.in-Pi.field-0.value) n k c.in_ok-rest-in-Pi.ensures mark) c.with_first.ensures

pub returns-in-Star : goal.returns-in-Star
returns-in-Star t c =
    let k : kind_of c.args.kind.now ≡ star = grind (arith, types) in
    on_value c.from_slice-in-Star.result _ _ (λ v h. ap (map mark_of) h ∙ completed_star c.args.implicit (map mark_of c.args.explicit.now) (kind_of c.args.kind.now) k) c.from_slice-in-Star.ensures.items
