use Rattle.std.proofs.Common.{Some, option_map, map, reverse, slice_get, sym, ap, ◌∙◌}
use Rattle.tw_approx.specs.Reading.{state_of}
use Rattle.tw_names.specs.Scope.{named}
use Rattle.tw_shapes.specs.View.{shape_of}
use Rattle.tw_terms.specs.View.{head_of}
use Rattle.tw_terms.proofs.Views.{head_of-Const, head_of-Var}
use Rattle.tw_approx.proofs.Answering.{if_ok}
use Rattle.tw_approx.proofs.Known.{constant_named, variable_named_reads, free_named}
use Rattle.tw_approx.proofs.skeletons.name_shape.Goals as goal

pub returns-in-Some-Const : goal.returns-in-Some-Const
returns-in-Some-Const c =
    let id = c.in-Some-Const.id in
    let h = sym c.named.ensures ∙ ap (option_map head_of) (c.in-Some-Const.is ∙ ap Some c.in-Some-Const.field-0-is) ∙ ap Some (head_of-Const id) in
    if_ok c.constant_shape.result _ _ (λ o e. constant_named c.args.signature.now (state_of c.args.walk.now) c.args.name.now (named c.args.signature.now c.args.walk.now.scope c.args.name.now) id.0 o h c.requires e) c.constant_shape.ensures

pub returns-in-Some-Var : goal.returns-in-Some-Var
returns-in-Some-Var c =
    let i = c.in-Some-Var.variable in
    let h = sym c.named.ensures ∙ ap (option_map head_of) (c.in-Some-Var.is ∙ ap Some c.in-Some-Var.field-0-is) ∙ ap Some (head_of-Var i) in
    if_ok c.variable_shape.result _ _ (λ o e. variable_named_reads c.args.signature.now (state_of c.args.walk.now) c.args.name.now (named c.args.signature.now c.args.walk.now.scope c.args.name.now) i o h c.requires (e ∙ ap (λ xs. slice_get (reverse (map shape_of xs)) i) c.deref.ensures.value)) c.variable_shape.ensures

pub returns-in-None : goal.returns-in-None
returns-in-None c =
    let h = sym c.named.ensures ∙ ap (option_map head_of) c.in-None.is in
    if_ok c.free_shape.result _ _ (λ o e. free_named c.args.signature.now (state_of c.args.walk.now) (state_of c.free_shape.new.walk) c.args.name.now (named c.args.signature.now c.args.walk.now.scope c.args.name.now) o h e) c.free_shape.ensures
