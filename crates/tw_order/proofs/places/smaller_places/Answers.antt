use Rattle.std.proofs.Common.{◌≡◌, ◌∙◌, Some, ap, subst, sym}
use Rattle.std.specs.Prelude.{option_map}
use Rattle.lf.specs.Entries.{signature_of}
use Rattle.lf.specs.Variables.{target_arguments}
use Rattle.lf_checks.specs.Order.{argument_at}
use Rattle.tw_terms.specs.View.{term_of, type_of}
use Rattle.tw_order.specs.Places.{IsPlaceType}
use Rattle.tw_order.specs.Taking.{IsFound}
use Rattle.tw_order.proofs.Arguments.{family_takes, no_place, place_typed}
use Rattle.tw_order.proofs.places.smaller_places.Goals as goal

pub family_place-requires : goal.family_place-requires
family_place-requires c = family_takes (signature_of c.args.sig.now) c.args.call.now.scope.context.now (type_of c.args.call.now.head.now) c.requires

pub smaller-requires : goal.smaller-requires
smaller-requires c =
    let Σ = signature_of c.args.sig.now in
    let H = type_of c.args.call.now.head.now in
    let f : argument_at c.args.other (target_arguments H) ≡ Some (term_of c.in-Some-argument.than.now) = sym (c.in-Some-argument.ensures ∙ ap (argument_at c.args.other) c.target_spine-2.ensures) in
    place_typed Σ c.args.call.now.scope.context.now H c.requires c.args.other (term_of c.in-Some-argument.than.now) (type_of c.in-Some-2.ty) f (subst (λ o. IsFound (IsPlaceType Σ H c.args.other) (option_map type_of o)) c.in-Some-2.is c.in_ok-ty.ensures)

pub returns-in-None : goal.returns-in-None
returns-in-None c =
    let Σ = signature_of c.args.sig.now in
    let H = type_of c.args.call.now.head.now in
    no_place Σ c.args.call.now.scope (type_of c.args.call.now.goal.now) H c.args.one c.args.other (subst (λ o. IsFound (IsPlaceType Σ H c.args.other) (option_map type_of o)) c.in-None.is c.in_ok-ty.ensures)
