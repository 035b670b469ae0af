use Rattle.std.proofs.Common.{◌≡◌, ◌+◌, arith, drop, false, subst, true}
use Rattle.std.specs.Prelude.{Decides}
use Rattle.lf.specs.Syntax.{lambda}
use Rattle.lf.specs.Variables.{UsesSpine}
use Rattle.tw_signature.proofs.Marking.{args_at}
use Rattle.tw_terms.specs.View.{args_of, spine_of, term_of}
use Rattle.tw_terms.proofs.Args.{types}
use Rattle.tw_mode.specs.Allowed.{allowed_in}
use Rattle.tw_clause.proofs.Patterns.{on_value}
use Rattle.tw_mode.proofs.Using.{spine_done, spine_fails, spine_next, uses_lambda}
use Rattle.tw_mode.proofs.uses.+uses.Goals as goal

pub uses_term-returns-in_ok-under_one-in-Lam : goal.uses_term-returns-in_ok-under_one-in-Lam
uses_term-returns-in_ok-under_one-in-Lam t c =
    let e : term_of c.args.term.now ≡ lambda (term_of c.deref.result.now) = grind (arith, types) in
    on_value c.uses_term.result _ _ (λ b d. uses_lambda b (allowed_in c.args.allowed.now) (allowed_in c.in_ok-under_one-in-Lam.field-0) (term_of c.args.term.now) (term_of c.deref.result.now) e c.in_ok-under_one-in-Lam.ensures.set d) c.uses_term.ensures

pub uses_spine-returns-then-not-branch : goal.uses_spine-returns-then-not-branch
uses_spine-returns-then-not-branch t c =
    let items = c.deref-arg-items.result.now in
    let k = c.loop-arg.arg-index in
    let U = allowed_in c.args.allowed.now in
    let whole : args_of items ≡ spine_of c.args.spine.now = grind (arith, types) in
    subst (λ S. Decides false (UsesSpine U S)) whole (spine_fails c.in_ok-uses_term.field-0 U (args_of (drop k items)) (args_of (drop (k + 1) items)) (args_of items) (term_of c.arg-item.result) c.if-not-branch.true (args_at items k c.arg-item.result (omega arith) c.arg-item.is) c.in_ok-uses_term.ensures c.loop-arg.invariant)

pub uses_spine-loop-arg-preserved : goal.uses_spine-loop-arg-preserved
uses_spine-loop-arg-preserved t c =
    let items = c.deref-arg-items.result.now in
    let k = c.loop-arg.arg-index in
    let U = allowed_in c.args.allowed.now in
    spine_next c.in_ok-uses_term.field-0 U (args_of (drop k items)) (args_of (drop (k + 1) items)) (args_of items) (term_of c.arg-item.result) c.if-not-branch.false (args_at items k c.arg-item.result (omega arith) c.arg-item.is) c.in_ok-uses_term.ensures c.loop-arg.invariant

pub uses_spine-returns : goal.uses_spine-returns
uses_spine-returns t c =
    let items = c.deref-arg-items.result.now in
    let U = allowed_in c.args.allowed.now in
    let whole : args_of items ≡ spine_of c.args.spine.now = grind (arith, types) in
    subst (λ S. Decides true (UsesSpine U S)) whole (spine_done U c.loop-arg.arg-index items (args_of items) (omega arith) c.loop-arg.invariant)
