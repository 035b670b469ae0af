use Rattle.std.proofs.Common.{◌≡◌, arith}
use Rattle.lf.specs.Syntax.{constant, metavariable, nil, root}
use Rattle.tw_terms.specs.OpenView.{open_spine_of, open_term_of}
use Rattle.tw_putting.proofs.Environments.{environments}
use Rattle.tw_putting.proofs.HeadValues.{becomes_by, constant_at_once}
use Rattle.tw_putting.proofs.unfolding.constant_head.Goals as goal

pub returns-in-Root-Const-default : goal.returns-in-Root-Const-default
returns-in-Root-Const-default c =
    let S = open_spine_of c.in-Root-Const-default.field-1 in
    let e : open_term_of c.args.term.now ≡ root (constant c.in-Root-Const-default.constant.0) S = grind (arith, environments) in
    constant_at_once c.args.store.now.now (open_term_of c.args.term.now) c.in-Root-Const-default.constant.0 S e

pub returns-then-is_empty : goal.returns-then-is_empty
returns-then-is_empty c =
    let e : open_term_of c.args.term.now ≡ root (metavariable c.in-Root-Meta-default.meta.0) nil = grind (arith, environments) in
    becomes_by c.args.store.now.now (open_term_of c.args.term.now) (root (metavariable c.in-Root-Meta-default.meta.0) nil) e c.constant_value.result c.constant_value.ensures
