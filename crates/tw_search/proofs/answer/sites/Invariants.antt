use Rattle.std.proofs.Common.{◌≡◌, map}
use Rattle.tw_terms.specs.declared.canonical.MetaId.{MetaId}
use Rattle.tw_search.specs.Leaves.{below}
use Rattle.tw_search.proofs.answer.sites.Given as goal

-- those so far
abbrev pub invariant-loop-variable : goal.invariant-loop-variable
invariant-loop-variable l = map (λ (m : MetaId). m.0) l.sites.items ≡ below l.variable
