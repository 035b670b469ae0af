use Rattle.std.proofs.Common.{ap, arith, sym, Some, ◌-◌, ◌∙◌}
use Rattle.tw_search.proofs.Naming.{place_at, place_past}
use Rattle.tw_search.proofs.names.place_of.Goals as goal

pub returns-then-variable-count : goal.returns-then-variable-count
returns-then-variable-count c = ap (λ k. Some (k - 1 - c.args.variable)) c.len-count.ensures ∙ sym (place_at c.args.variables.now c.args.variable (omega arith))

pub returns-else-variable-count : goal.returns-else-variable-count
returns-else-variable-count c = sym (place_past c.args.variables.now c.args.variable (omega arith))
