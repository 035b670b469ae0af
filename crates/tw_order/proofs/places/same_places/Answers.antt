use Rattle.std.proofs.Common.{◌≡◌, ◌∙◌, Some, ap, sym}
use Rattle.lf.specs.Variables.{target_arguments}
use Rattle.lf_checks.specs.Order.{argument_at}
use Rattle.tw_terms.specs.View.{term_of, type_of}
use Rattle.tw_order.proofs.Arguments.{same_place}
use Rattle.tw_order.proofs.places.same_places.Goals as goal

pub returns : goal.returns
returns c =
    let S = target_arguments (type_of c.args.goal.now) in
    let H = target_arguments (type_of c.args.head.now) in
    let e : argument_at c.args.one S ≡ Some (term_of c.in-Some.term.now) = sym (c.in-Some.ensures ∙ ap (argument_at c.args.one) c.target_spine.ensures) in
    let f : argument_at c.args.other H ≡ Some (term_of c.in-Some-argument.than.now) = sym (c.in-Some-argument.ensures ∙ ap (argument_at c.args.other) c.target_spine-2.ensures) in
    same_place c.same.result S H c.args.one c.args.other (term_of c.in-Some.term.now) (term_of c.in-Some-argument.than.now) e f c.same.ensures
