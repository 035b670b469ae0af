use Rattle.std.proofs.Common.{◌-◌, arith}
use Rattle.tw_terms.specs.declared.canonical.MetaId.{MetaId}
use Rattle.tw_equation.proofs.Names.{one_given}
use Rattle.tw_equation.proofs.naming.given_names.Goals as goal

pub loop-place-preserved : goal.loop-place-preserved
loop-place-preserved c =
    let d : MetaId = record { 0 = 0 } in
    one_given c.args.names.now c.args.order.now (c.loop-place.place - 1) c.loop-place.place d c.in_ok-given_name.field-0 c.loop-place.given.items c.push.new.self.items _ (omega arith) (omega arith) c.in_ok-given_name.ensures c.in_ok-push.ensures.items c.loop-place.invariant
