use Rattle.std.proofs.Common.{◌∙◌, ap, ap₂, sym}
use Rattle.lf.specs.AtOnce.{lift_renaming_by}
use Rattle.lf.specs.Syntax.{pi, rename_type}
use Rattle.lf.specs.Variables.{at_variable}
use Rattle.tw_terms.specs.View.{type_of}
use Rattle.tw_terms.proofs.Views.{type_of-Pi}
use Rattle.tw_terms.proofs.Weakened.{under_pi}
use Rattle.tw_order.proofs.put.+put_in_type.Goals as goal

pub returns-in_ok-new-in-Pi-2 : goal.returns-in_ok-new-in-Pi-2
returns-in_ok-new-in-Pi-2 t c =
    let ρ = at_variable c.args.variable in
    let e = under_pi c.in_ok-inside-in-Pi.inside c.args.under ρ (type_of c.in-Pi.domain.value) (type_of c.in-Pi.range.value) c.in_ok-inside-in-Pi.ensures in
    type_of-Pi c.in_ok-new-in-Pi.field-0 c.in_ok-new-in-Pi-2.field-0
    ∙ ap₂ (λ x y. pi (type_of x) (type_of y)) c.in_ok-new-in-Pi.ensures.ok c.in_ok-new-in-Pi-2.ensures.ok
    ∙ ap₂ pi (c.in_ok-domain-in-Pi.ensures ∙ ap (λ x. rename_type (lift_renaming_by c.args.under ρ) (type_of x)) c.deref.ensures) (c.in_ok-range-in-Pi.ensures ∙ ap (λ x. rename_type (lift_renaming_by c.in_ok-inside-in-Pi.inside ρ) (type_of x)) c.deref-in-Pi.ensures)
    ∙ sym e
    ∙ sym (ap (λ x. rename_type (lift_renaming_by c.args.under ρ) (type_of x)) c.in-Pi.is ∙ ap (rename_type (lift_renaming_by c.args.under ρ)) (type_of-Pi c.in-Pi.domain c.in-Pi.range))
