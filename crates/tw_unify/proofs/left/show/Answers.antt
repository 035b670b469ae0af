use Rattle.std.proofs.Common.{◌∙◌, ap, map}
use Rattle.tw_metas.specs.View.{equation_of}
use Rattle.tw_metas.specs.Named.{named_of, shown_type_of}
use Rattle.tw_unify.specs.Showing.{name_of}
use Rattle.tw_unify.proofs.Shown.{all_shown}
use Rattle.tw_unify.proofs.left.show.Goals as goal

pub returns : goal.returns
returns c =
    let named = map named_of c.args.names.now in
    all_shown c.args.store.now.now (equation_of c.args.equation.now) (equation_of c.in_ok-equation.equation) named (map shown_type_of c.in_ok-metas.metas.items) c.in_ok-names.names.items
    c.in_ok-order.order.items c.show_equation.new.order.items c.show_types.new.order.items c.requires.names c.in_ok-order.ensures c.in_ok-equation.ensures.shown c.in_ok-equation.ensures.grown
    c.in_ok-metas.ensures.shown c.in_ok-metas.ensures.grown (c.in_ok-names.ensures ∙ ap (map (name_of named)) c.deref.ensures.value)
