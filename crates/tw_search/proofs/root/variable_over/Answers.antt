use Rattle.std.proofs.Common.{◌-◌, arith, ◌∙◌}
use Rattle.tw_terms.proofs.OpenViews.{open_head_of-Meta, open_head_of-Var}
use Rattle.tw_search.proofs.Rooting.{inside_itself, inside_meta, inside_past}
use Rattle.tw_search.proofs.root.variable_over.Goals as goal

pub returns-then-variable-binders : goal.returns-then-variable-binders
returns-then-variable-binders c = open_head_of-Var c.args.variable ∙ inside_itself c.args.binders c.args.count c.args.variable (omega arith)

pub returns-then-outside-count : goal.returns-then-outside-count
returns-then-outside-count c = open_head_of-Meta _ ∙ inside_meta c.args.binders c.args.count c.args.variable (omega arith) (omega arith)

pub returns-else-outside-count : goal.returns-else-outside-count
returns-else-outside-count c = open_head_of-Var (c.args.variable - c.args.count) ∙ inside_past c.args.binders c.args.count c.args.variable (omega arith) (omega arith)
