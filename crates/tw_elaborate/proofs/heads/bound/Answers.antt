use Rattle.std.proofs.Common.{◌≡◌, ◌+◌, Some, ap, ap₂, arith, ◌∙◌}
use Rattle.std.specs.List.{slice_get}
use Rattle.lf.specs.Eta.{eta_expand}
use Rattle.lf.specs.Syntax.{nil, skeleton, variable}
use Rattle.tw_terms.specs.OpenView.{open_args_of, open_head_of, open_spine_of, open_type_of}
use Rattle.tw_terms.proofs.OpenViews.{open_head_of-Var, open_spine_of-roll}
use Rattle.tw_terms.specs.declared.open_terms.OpenHead.TheVariants.{Var}
use Rattle.tw_elaborate.specs.View.{made}
use Rattle.tw_elaborate.proofs.Naming.{bound_inferred}
use Rattle.tw_elaborate.proofs.heads.bound.Goals as goal

pub returns-clause-ok : goal.returns-clause-ok
returns-clause-ok c = λ es ns.
    let B = open_type_of c.in-Some.ty.now in
    let A = open_type_of c.in_ok-ty.ty in
    let e : Some B ≡ slice_get c.args.state.now.locals c.args.variable = c.in-Some.ensures in
    let k : c.in_ok-by.by ≡ c.args.variable + 1 = grind arith in
    let s : open_spine_of _ ≡ nil = open_spine_of-roll c.new.result ∙ ap open_args_of c.new.ensures.items in
    let r : eta_expand (skeleton A) (open_head_of (Var c.args.variable)) (open_spine_of _) ≡ eta_expand (skeleton A) (variable c.args.variable) nil = ap₂ (eta_expand (skeleton A)) (open_head_of-Var c.args.variable) s in
    bound_inferred es ns c.args.state.now.locals (made c.args.state.now) c.args.variable c.in_ok-by.by B A _ e k c.in_ok-ty.ensures r
