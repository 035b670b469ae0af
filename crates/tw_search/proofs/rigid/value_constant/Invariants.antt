use Rattle.tw_search.proofs.ClashingHeads.{ComesTo}
use Rattle.tw_search.proofs.rigid.value_constant.Given as goal

-- the head of the metavariable that is reached is that of the first one
abbrev pub invariant-loop : goal.invariant-loop
invariant-loop l = ComesTo l.store.now l.fn.meta.0 l.here.0
