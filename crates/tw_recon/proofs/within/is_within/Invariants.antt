use Rattle.std.proofs.Common.{drop}
use Rattle.lf.specs.Depth.{depth_limit}
use Rattle.tw_recon.specs.Queries.{ContextIsWithin}
use Rattle.tw_recon.proofs.within.is_within.Given as goal

-- with what is left, the whole is within the limit
abbrev pub invariant-loop-variable : goal.invariant-loop-variable
invariant-loop-variable l = ContextIsWithin depth_limit (drop l.variable l.variables) → ContextIsWithin depth_limit l.variables
