use Rattle.std.proofs.Common.{◌≡◌, ◌+◌, ◌∙◌, Err, ap, arith, false, rules, subst, sym}
use Rattle.lf.specs.Entries.{signature_of}
use Rattle.lf.specs.Syntax.{LfType}
use Rattle.lf.specs.Typing.{IsContext, TypeAt}
use Rattle.lf.specs.Variables.{everything}
use Rattle.lf_checks.specs.Clause.{is_variable}
use Rattle.tw_terms.specs.View.{type_of}
use Rattle.tw_world.specs.Checks.{IsOpenUnder, PassesUnder}
use Rattle.tw_world.proofs.Instances.{same_cause}
use Rattle.tw_world.proofs.Solving.{all_pass, deep_here, fails_here, index_within, not_passing, scope_is_context}
use Rattle.tw_world.proofs.clause.clause_fault.Goals as goal

pub subgoal_passes-requires-clause-scope : goal.subgoal_passes-requires-clause-scope
subgoal_passes-requires-clause-scope c =
    let Σ = signature_of c.args.check.now.sig.now in
    subst (IsContext Σ) (sym c.in_ok-scope.ensures) (scope_is_context Σ (type_of c.args.ty.now) c.args.outer.now c.requires.outer c.requires.ty)

pub subgoal_passes-requires-clause-within : goal.subgoal_passes-requires-clause-within
subgoal_passes-requires-clause-within c = index_within (type_of c.args.ty.now) c.args.outer.now c.in_ok-scope.scope c.in_ok-shape.shape.items c.loop-index.index c.in_ok-scope.ensures c.in_ok-shape.ensures (omega arith)

pub returns-in_err-subgoal_passes-clause-too_deep : goal.returns-in_err-subgoal_passes-clause-too_deep
returns-in_err-subgoal_passes-clause-too_deep c = λ h F.
    let x = c.args.check.now in
    let T = type_of c.args.ty.now in
    let n = c.loop-index.index in
    let f = c.in_err-subgoal_passes.field-0.0 in
    let q : c.from_residual-in_err-subgoal_passes.result ≡ Err f = search rules in
    let v : is_variable everything T n ≡ false = sym (c.is_variable_at.ensures T (c.deref.ensures.value ∙ c.in_ok-shape.ensures)) ∙ c.if-not-is_variable_at.true in
    let d = subst (λ G. (A : LfType) → TypeAt G n A → IsOpenUnder x G A) c.in_ok-scope.ensures (c.in_err-subgoal_passes.ensures.too_deep (ap Err (same_cause c.from_residual-in_err-subgoal_passes.result q h))) in
    (c.loop-index.number + 1, deep_here x c.args.outer.now T n c.loop-index.number c.in_ok-shape.shape.items F c.in_ok-shape.ensures (omega arith) v c.loop-index.invariant.number c.loop-index.invariant.before d)

pub returns-then-not-branch-clause-decided : goal.returns-then-not-branch-clause-decided
returns-then-not-branch-clause-decided c = λ F.
    let x = c.args.check.now in
    let T = type_of c.args.ty.now in
    let n = c.loop-index.index in
    let v : is_variable everything T n ≡ false = sym (c.is_variable_at.ensures T (c.deref.ensures.value ∙ c.in_ok-shape.ensures)) ∙ c.if-not-is_variable_at.true in
    let d = subst (λ G. (A : LfType) → TypeAt G n A → PassesUnder x G A → ⊥) c.in_ok-scope.ensures (λ A t. not_passing c.in_ok-subgoal_passes.field-0 c.if-not-branch.true (c.in_ok-subgoal_passes.ensures.decided A t)) in
    fails_here x c.args.outer.now T n c.loop-index.number c.in_ok-shape.shape.items F c.in_ok-shape.ensures (omega arith) v c.loop-index.invariant.number c.loop-index.invariant.before d

pub returns-clause-decided : goal.returns-clause-decided
returns-clause-decided c = λ F. all_pass c.args.check.now c.args.outer.now (type_of c.args.ty.now) c.loop-index.index c.in_ok-shape.shape.items F c.in_ok-shape.ensures (omega arith) c.loop-index.invariant.before
