use Rattle.std.proofs.Common.{◌≡◌, reverse, vec_len}
use Rattle.tw_parse_checks.specs.Parts.{bound_over, seen}
use Rattle.tw_parse_checks.proofs.binding.bound_over.Given as goal

abbrev pub invariant-loop-variable : goal.invariant-loop-variable
invariant-loop-variable l = bound_over (reverse l.variables.items) (reverse l.domains.items) (seen l.part) ≡ bound_over (reverse l.fn.bound.variables.items) (reverse l.fn.bound.domains.items) (seen l.fn.behind)

abbrev pub decreases-loop-variable : goal.decreases-loop-variable
decreases-loop-variable l = vec_len l.variables
