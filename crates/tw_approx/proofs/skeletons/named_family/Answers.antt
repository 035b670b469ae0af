use Rattle.std.proofs.Common.{Some, option_map, drop, map, sym, ap, ◌∙◌}
use Rattle.tw_approx.specs.Reading.{shape_from}
use Rattle.tw_approx.specs.Skeletons.{due, family_of_entry, family_of_body}
use Rattle.tw_signature.specs.View.{body_of, entry_of}
use Rattle.tw_terms.specs.View.{head_of, kind_of}
use Rattle.tw_terms.proofs.Views.{head_of-Const}
use Rattle.tw_names.specs.Scope.{named}
use Rattle.tw_shapes.proofs.Views.{shape_of-Base}
use Rattle.tw_shapes.specs.declared.shape.Shape.TheVariants.{Base}
use Rattle.tw_approx.proofs.Known.{family_name_reads}
use Rattle.tw_approx.proofs.skeletons.named_family.Goals as goal

pub returns-in_ok-due-in-Family : goal.returns-in_ok-due-in-Family
returns-in_ok-due-in-Family c = λ s sound.
    let id = c.in-Some-Const.id in
    let e = c.in-Some.entry.now in
    let h = sym c.named.ensures ∙ ap (option_map head_of) (c.in-Some-Const.is ∙ ap Some c.in-Some-Const.field-0-is) ∙ ap Some (head_of-Const id) in
    let f = ap (family_of_entry id.0) (sym c.entry.ensures ∙ ap (option_map (λ b. entry_of b.now)) c.in-Some.is) ∙ ap (λ b. family_of_body id.0 e.implicit (body_of b)) c.in-Family.is in
    let g = c.in_ok-due-in-Family.ensures ∙ ap (map shape_from) c.kind_behind.ensures in
    family_name_reads c.args.signature.now s c.args.name.now (named c.args.signature.now c.args.scope.now c.args.name.now) id.0 (drop e.implicit (due (kind_of c.in-Family.kind))) c.in_ok-due-in-Family.due (Base id) h f g (shape_of-Base id) sound
