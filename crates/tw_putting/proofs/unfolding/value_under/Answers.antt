use Rattle.std.proofs.Common.{◌≡◌, ◌<◌, IfOk, subst, arith}
use Rattle.lf.specs.Depth.{depth, depth_limit}
use Rattle.lf.specs.Syntax.{nil, skeleton}
use Rattle.tw_terms.specs.OpenView.{open_spine_of, open_term_of, open_type_of}
use Rattle.tw_putting.proofs.Environments.{environments}
use Rattle.tw_putting.proofs.HeadValues.{value_alone}
use Rattle.tw_putting.proofs.unfolding.value_under.Goals as goal

pub returns-then-is_empty-clause-ok : goal.returns-then-is_empty-clause-ok
returns-then-is_empty-clause-ok c =
    let none : c.args.binders ≡ 0 = grind arith in
    let bare : open_spine_of c.args.spine.now ≡ nil = grind (arith, environments) in
    subst (λ X. IfOk c.copied.result (λ m. open_term_of m ≡ X)) (value_alone c.args.binders (skeleton (open_type_of c.args.ty.now)) (open_term_of c.args.value.now) (open_spine_of c.args.spine.now) none bare) c.copied.ensures.ok

pub returns-then-is_empty-clause-too_deep : goal.returns-then-is_empty-clause-too_deep
returns-then-is_empty-clause-too_deep c =
    let none : c.args.binders ≡ 0 = grind arith in
    let bare : open_spine_of c.args.spine.now ≡ nil = grind (arith, environments) in
    λ f. subst (λ X. depth_limit < depth X) (value_alone c.args.binders (skeleton (open_type_of c.args.ty.now)) (open_term_of c.args.value.now) (open_spine_of c.args.spine.now) none bare) (c.copied.ensures.too_deep f)
