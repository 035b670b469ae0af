use Rattle.tw_putting.proofs.HeadValues.{LeadsTo}
use Rattle.tw_putting.proofs.unfolding.constant_value.Given as goal

-- the metavariable here is what comes of the first one
abbrev pub invariant-loop : goal.invariant-loop
invariant-loop l = LeadsTo l.store.now l.fn.meta.0 l.here.0
