use Rattle.std.proofs.Common.{◌≡◌, Some, None, length, ◌<◌, subst, ◌∙◌}
use Rattle.tw_putting.proofs.Changes.{there_is}
use Rattle.tw_terms.specs.OpenView.{open_type_of}
use Rattle.tw_search.proofs.HeadsLeft.{local_found, local_passed}
use Rattle.tw_search.proofs.choice.next_local.Goals as goal

pub returns-then-open_target-family-clause-next : goal.returns-then-open_target-family-clause-next
returns-then-open_target-family-clause-next c = local_found c.args.family.0 c.loop-variable.variable c.open_target.result.0 c.args.locals.now (open_type_of c.in-Some.ty.now) _ c.in-Some.ensures c.open_target.ensures c.if-open_target-family.true c.loop-variable.invariant

pub unreachable-requires : goal.unreachable-requires
unreachable-requires c =
    let h : c.loop-variable.variable < length c.args.locals.now = subst (λ n. c.loop-variable.variable < n) c.len-variable-end.ensures c.loop-variable-test.true in
    let (A, e) = there_is c.args.locals.now c.loop-variable.variable h in
    let no : None ≡ Some A = c.in-None.ensures ∙ e in
    absurd cc

pub loop-variable-preserved : goal.loop-variable-preserved
loop-variable-preserved c = local_passed c.args.family.0 c.loop-variable.variable c.open_target.result.0 c.args.locals.now (open_type_of c.in-Some.ty.now) _ c.in-Some.ensures c.open_target.ensures c.if-open_target-family.false c.loop-variable.invariant
