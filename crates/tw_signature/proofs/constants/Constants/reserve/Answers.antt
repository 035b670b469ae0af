use Rattle.std.proofs.Common.{◌∙◌, ap, arith, map}
use Rattle.tw_signature.specs.Constants.{numbers_in}
use Rattle.tw_signature.proofs.FamilyConstants.{lent_at, room_for, same_numbers}
use Rattle.tw_signature.proofs.constants.Constants.reserve.Goals as goal

pub returns-in_err-reserve-2-clause-same : goal.returns-in_err-reserve-2-clause-same
returns-in_err-reserve-2-clause-same c =
    same_numbers c.reserve.new.self.items c.in-Some.family.0 c.index_mut.result.now c.reserve-in-Some.new.self
    (lent_at c.args.self.now.lists.items c.reserve.new.self.items c.args.family c.in-Some.family c.index_mut.result.now c.in-Some.is c.reserve.ensures.items c.requires c.index_mut.ensures.value)
    c.reserve-in-Some.ensures.items
    ∙ ap (map numbers_in) c.reserve.ensures.items

pub returns-in_ok-reserve-2-clause-same : goal.returns-in_ok-reserve-2-clause-same
returns-in_ok-reserve-2-clause-same c =
    same_numbers c.reserve.new.self.items c.in-Some.family.0 c.index_mut.result.now c.reserve-in-Some.new.self
    (lent_at c.args.self.now.lists.items c.reserve.new.self.items c.args.family c.in-Some.family c.index_mut.result.now c.in-Some.is c.reserve.ensures.items c.requires c.index_mut.ensures.value)
    c.reserve-in-Some.ensures.items
    ∙ ap (map numbers_in) c.reserve.ensures.items

pub returns-in_ok-reserve-2-clause-room : goal.returns-in_ok-reserve-2-clause-room
returns-in_ok-reserve-2-clause-room c =
    let k = c.in_ok-reserve.ensures.ok in let j = c.in_ok-reserve-2.ensures.ok in (
      omega (arith, k),
      room_for c.reserve.new.self.items c.args.family c.in-Some.family c.index_mut.result.now c.reserve-in-Some.new.self c.in-Some.is
          (lent_at c.args.self.now.lists.items c.reserve.new.self.items c.args.family c.in-Some.family c.index_mut.result.now c.in-Some.is c.reserve.ensures.items c.requires c.index_mut.ensures.value)
          (omega (arith, j)),
    )
