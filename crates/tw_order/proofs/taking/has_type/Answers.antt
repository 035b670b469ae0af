use Rattle.std.proofs.Common.{subst}
use Rattle.std.specs.Prelude.{option_map}
use Rattle.lf.specs.Typing.{TypeAt}
use Rattle.tw_terms.specs.View.{type_of}
use Rattle.tw_order.specs.Taking.{IsFound}
use Rattle.tw_order.proofs.Arguments.{type_decided}
use Rattle.tw_order.proofs.taking.has_type.Goals as goal

pub returns-in-Some : goal.returns-in-Some
returns-in-Some c =
    let G = c.args.context.now in
    let i = c.args.variable in
    type_decided c.same.result G i (type_of c.in-Some.own) (type_of c.args.ty.now) (subst (λ o. IsFound (TypeAt G i) (option_map type_of o)) c.in-Some.is c.in_ok-own.ensures) c.same.ensures
