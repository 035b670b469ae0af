use Rattle.std.proofs.Common.{◌-◌, ap, arith, length, ◌∙◌}
use Rattle.tw_terms.specs.OpenView.{open_head_of, open_spine_of}
use Rattle.tw_terms.proofs.OpenViews.{open_head_of-Meta, open_head_of-Var}
use Rattle.tw_search.proofs.Applied.{comes_nearer, has_metavariable, starts_with, within}
use Rattle.tw_search.specs.Applied.{taken_at}
use Rattle.tw_search.proofs.placing.variable_over.Goals as goal

pub returns-then-variable-binders : goal.returns-then-variable-binders
returns-then-variable-binders c =
    let L = open_spine_of c.args.arguments.now in
    let ms = c.args.metas.now in
    starts_with _ (taken_at L ms c.args.binders) c.args.variable (open_head_of c.bare.result.head) (open_spine_of c.bare.result.arguments) (within L ms c.args.binders c.args.variable (omega arith)) (ap open_head_of c.bare.ensures.head ∙ open_head_of-Var c.args.variable) c.bare.ensures.arguments

pub returns-then-outside-count : goal.returns-then-outside-count
returns-then-outside-count c =
    let L = open_spine_of c.args.arguments.now in
    let ms = c.args.metas.now in
    let r = c.bare-then-outside-count in
    starts_with _ (taken_at L ms c.args.binders) c.args.variable (open_head_of r.result.head) (open_spine_of r.result.arguments) (comes_nearer L ms c.args.binders c.args.variable (omega arith) (omega arith)) (ap open_head_of r.ensures.head ∙ open_head_of-Var (c.args.variable - length ms)) r.ensures.arguments

pub returns : goal.returns
returns c =
    let L = open_spine_of c.args.arguments.now in
    let ms = c.args.metas.now in
    starts_with _ (taken_at L ms c.args.binders) c.args.variable _ (open_spine_of c.in_ok-arguments.arguments) (has_metavariable L ms (record { 0 = 0 }) c.args.binders c.args.variable (omega arith) (omega arith)) (open_head_of-Meta _) c.in_ok-arguments.ensures
