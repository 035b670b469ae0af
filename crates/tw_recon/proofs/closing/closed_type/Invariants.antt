use Rattle.std.proofs.Common.{◌≡◌, drop}
use Rattle.lf_unification.specs.Offering.{pi_over}
use Rattle.tw_terms.specs.View.{type_of}
use Rattle.tw_recon.proofs.closing.closed_type.Given as goal

-- closed over the variables so far
abbrev pub invariant-loop-variable : goal.invariant-loop-variable
invariant-loop-variable l = pi_over l.quantifiers (type_of l.fn.ty) ≡ pi_over (drop l.variable l.quantifiers) (type_of l.closed)
