use Rattle.std.proofs.Common.{◌≡◌, drop}
use Rattle.lf_unification.specs.Offering.{pi_over}
use Rattle.tw_terms.specs.View.{type_of}
use Rattle.tw_query.proofs.rows.type_over.Given as goal

-- closed over the variables so far
abbrev pub invariant-loop-variable : goal.invariant-loop-variable
invariant-loop-variable l = pi_over l.context (type_of l.fn.ty) ≡ pi_over (drop l.variable l.context) (type_of l.over)
