use Rattle.std.proofs.Common.{◌-◌, arith, sym}
use Rattle.tw_clause.proofs.Patterns.{lower_in, lower_out}
use Rattle.tw_clause.proofs.eta.outside.Goals as goal

pub returns-then-variable-binders : goal.returns-then-variable-binders
returns-then-variable-binders c = sym (lower_in c.args.binders c.args.variable (omega arith))

pub returns-else-variable-binders : goal.returns-else-variable-binders
returns-else-variable-binders c = sym (lower_out c.args.binders c.args.variable (c.args.variable - c.args.binders) (omega arith))
