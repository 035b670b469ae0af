use Rattle.std.proofs.Common.{◌≡◌, ◌∙◌, ◌++◌, List, [], Some, length, map, take, sym, ap, ap₂, subst}
use Rattle.std.proofs.lemmas.List.{length-map}
use Rattle.lf.specs.Syntax.{LfType}
use Rattle.tw_metas.specs.View.{equation_of}
use Rattle.tw_print.proofs.Typed.{if_ok}
use Rattle.tw_print.specs.ShowEnv.{scene_of}
use Rattle.tw_shown.specs.Shown.{outside}
use Rattle.tw_terms.specs.View.{term_of, type_of}
use Rattle.tw_terms.specs.declared.open_terms.OpenTy.{OpenTy}
use Rattle.tw_metas.specs.Named.{shown_type_of}
use Rattle.tw_equation.specs.LaidView.{laid_of}
use Rattle.tw_equation.specs.Text.{Laid, laid_out, meta_names, with_locals}
use Rattle.tw_equation.proofs.LocalTypes.{entered_length}
use Rattle.tw_equation.proofs.Whole.{all_shown, locals_fit, text_is}
use Rattle.tw_equation.proofs.equation.show_equation.Goals as goal

pub name_locals-requires : goal.name_locals-requires
name_locals-requires c =
    let n = c.in_ok-enter_locals.ensures.entered in
    locals_fit n.types c.in_ok-context.context c.enter_locals.new.context c.len-2.result n.in_front (c.len-2.ensures ∙ sym (entered_length _ _ _ _ n))

pub returns : goal.returns
returns c =
    let s = scene_of c.args.env.now in
    let metas : List (List LfType × OpenTy) = c.args.left.now.metas.items in
    let names = c.args.left.now.names.items in
    let e = equation_of c.args.left.now.equation in
    let M = term_of c.in_ok-sides.sides.left in
    let N = term_of c.in_ok-sides.sides.right in
    let T = type_of c.in_ok-sides.sides.ty in
    let n = c.in_ok-enter_locals.ensures.entered in
    let l : Laid = laid_of c.in_ok-laid.laid in
    let start : Laid = record { order = []; context = [] } in
    let P : List (List LfType × OpenTy) → Type 0 = λ z. laid_out (length z) (map shown_type_of z) start ≡ Some l in
    let a : P metas = subst P c.deref.ensures.value c.in_ok-laid.ensures.laid in
    if_ok c.show_equal.result _ _
    (λ t k.
    k
    ∙ all_shown s l names n.types c.enter_locals.new.context M N T c.len-2.result c.in_ok-shown.shown.items c.in_ok-outer.outer.items c.in_ok-scope.scope c.name_locals.new.scope
    (n.in_front ∙ ap (λ G. n.types ++ G) c.in_ok-context.ensures) (c.len-2.ensures ∙ sym (entered_length _ _ _ _ n)) c.in_ok-shown.ensures
    (c.in_ok-outer.ensures ∙ ap₂ outside (c.len.ensures ∙ sym c.len-2.ensures) c.deref-2.ensures.value)
    (c.in_ok-scope.ensures ∙ ap₂ (meta_names s l) c.deref-3.ensures.value c.deref-4.ensures.value)
    (c.in_ok-name_locals.ensures ∙ ap (λ vs. with_locals s (take c.len-2.result c.enter_locals.new.context) vs c.in_ok-scope.scope) c.deref-5.ensures.value)
    ∙ sym (text_is s (map shown_type_of metas) names e l n.types M N T (ap (λ i. laid_out i (map shown_type_of metas) start) (length-map metas shown_type_of) ∙ a) n.are c.in_ok-sides.ensures.left c.in_ok-sides.ensures.right c.in_ok-sides.ensures.of_type))
    c.show_equal.ensures
