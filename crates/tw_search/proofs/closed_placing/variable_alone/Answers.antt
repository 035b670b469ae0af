use Rattle.std.proofs.Common.{◌-◌, arith, length, refl}
use Rattle.lf.specs.Syntax.{nil}
use Rattle.tw_terms.proofs.OpenViews.{open_head_of-Meta, open_head_of-Var}
use Rattle.tw_search.proofs.Applied.{comes_nearer, has_metavariable, starts_with, within}
use Rattle.tw_search.specs.Applied.{taken_at}
use Rattle.tw_search.proofs.closed_placing.variable_alone.Goals as goal

pub returns-then-variable-binders : goal.returns-then-variable-binders
returns-then-variable-binders c =
    let ms = c.args.metas.now in
    starts_with _ (taken_at nil ms c.args.binders) c.args.variable _ nil (within nil ms c.args.binders c.args.variable (omega arith)) (open_head_of-Var c.args.variable) refl

pub returns-then-outside-count : goal.returns-then-outside-count
returns-then-outside-count c =
    let ms = c.args.metas.now in
    starts_with _ (taken_at nil ms c.args.binders) c.args.variable _ nil (comes_nearer nil ms c.args.binders c.args.variable (omega arith) (omega arith)) (open_head_of-Var (c.args.variable - length ms)) refl

pub returns : goal.returns
returns c =
    let ms = c.args.metas.now in
    starts_with _ (taken_at nil ms c.args.binders) c.args.variable _ nil (has_metavariable nil ms (record { 0 = 0 }) c.args.binders c.args.variable (omega arith) (omega arith)) (open_head_of-Meta _) refl
