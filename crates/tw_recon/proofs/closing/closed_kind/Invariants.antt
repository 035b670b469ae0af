use Rattle.std.proofs.Common.{◌≡◌, drop}
use Rattle.lf_elaboration.specs.Kinds.{kind_over}
use Rattle.tw_terms.specs.View.{kind_of}
use Rattle.tw_recon.proofs.closing.closed_kind.Given as goal

-- closed over the variables so far
abbrev pub invariant-loop-variable : goal.invariant-loop-variable
invariant-loop-variable l = kind_over l.quantifiers (kind_of l.fn.kind) ≡ kind_over (drop l.variable l.quantifiers) (kind_of l.closed)
