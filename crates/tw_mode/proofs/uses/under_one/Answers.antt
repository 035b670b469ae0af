use Rattle.tw_mode.proofs.Using.{set_inside}
use Rattle.tw_mode.proofs.uses.under_one.Goals as goal

pub returns-clause-set : goal.returns-clause-set
returns-clause-set c =
    let a = c.args.allowed.now in
    set_inside a.other a.bound a.depth c.in_ok-one_more-2.field-0 c.in_ok-one_more.field-0 a.marks.now c.in_ok-one_more-2.ensures c.in_ok-one_more.ensures c.requires
