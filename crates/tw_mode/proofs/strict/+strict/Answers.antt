use Rattle.std.proofs.Common.{◌≡◌, ◌+◌, ◌∙◌, ap, arith, length, drop, sym}
use Rattle.lf.specs.Syntax.{lambda, root, constant, variable}
use Rattle.tw_terms.specs.View.{term_of, spine_of, args_of}
use Rattle.tw_terms.proofs.Args.{types}
use Rattle.tw_signature.proofs.Marking.{on_ok, marked_length, args_at}
use Rattle.tw_mode.specs.Scopes.{bound_in, fixed_in}
use Rattle.tw_mode.proofs.Strictness.{strict_constant, strict_done, strict_flexible, strict_lambda, strict_next, strict_rigid}
use Rattle.tw_mode.proofs.strict.+strict.Goals as goal

pub mark_strict_spine-loop-arg-preserved : goal.mark_strict_spine-loop-arg-preserved
mark_strict_spine-loop-arg-preserved t c =
    let items = c.deref-arg-items.result.now in
    let s = c.args.scope.now in
    record {
      so_far = strict_next (bound_in s) (fixed_in s) s.depth (args_of (drop c.loop-arg.arg-index items)) (args_of (drop (c.loop-arg.arg-index + 1) items)) (term_of c.arg-item.result) c.loop-arg.marks c.mark_strict.new.marks (args_at items c.loop-arg.arg-index c.arg-item.result (omega arith) c.arg-item.is) c.in_ok-mark_strict.ensures ∙ c.loop-arg.invariant.so_far;
      len = ap length c.in_ok-mark_strict.ensures ∙ marked_length _ _ _ ∙ c.loop-arg.invariant.len;
    }

pub mark_strict_spine-returns : goal.mark_strict_spine-returns
mark_strict_spine-returns t c =
    let items = c.deref-arg-items.result.now in
    let s = c.args.scope.now in
    strict_done (bound_in s) (fixed_in s) s.depth c.loop-arg.arg-index items (spine_of c.args.spine.now) c.args.marks.now c.loop-arg.marks (omega arith) c.loop-arg.invariant.so_far (grind (arith, types))

pub mark_strict-returns-in_ok-inside-in-Lam : goal.mark_strict-returns-in_ok-inside-in-Lam
mark_strict-returns-in_ok-inside-in-Lam t c =
    let e : term_of c.args.term.now ≡ lambda (term_of c.deref.result.now) = grind (arith, types) in
    let s = c.args.scope.now in
    let i = c.in_ok-inside-in-Lam.field-0 in
    on_ok c.mark_strict.result _ _ (strict_lambda (bound_in s) (fixed_in s) (bound_in i) (fixed_in i) s.depth i.depth (term_of c.args.term.now) (term_of c.deref.result.now) c.args.marks.now c.mark_strict.new.marks e c.in_ok-inside-in-Lam.ensures.depth c.in_ok-inside-in-Lam.ensures.bound c.in_ok-inside-in-Lam.ensures.fixed c.requires.marks) c.mark_strict.ensures

pub mark_strict-returns-in-Root-Const-default : goal.mark_strict-returns-in-Root-Const-default
mark_strict-returns-in-Root-Const-default t c =
    let s = c.args.scope.now in
    let e : term_of c.args.term.now ≡ root (constant c.in-Root-Const-default.field-0-0.0) (spine_of c.in-Root-Const-default.spine) = grind (arith, types) in
    on_ok c.mark_strict_spine.result _ _ (strict_constant (bound_in s) (fixed_in s) s.depth c.in-Root-Const-default.field-0-0.0 (term_of c.args.term.now) (spine_of c.in-Root-Const-default.spine) c.args.marks.now c.mark_strict_spine.new.marks e) c.mark_strict_spine.ensures

pub mark_strict-returns-then-is_rigid : goal.mark_strict-returns-then-is_rigid
mark_strict-returns-then-is_rigid t c =
    let s = c.args.scope.now in
    let j = c.in-Root-Var-default.head in
    let S = spine_of c.in-Root-Var-default.spine in
    let e : term_of c.args.term.now ≡ root (variable j) S = grind (arith, types) in
    on_ok c.mark_strict_spine-then-is_rigid.result _ _ (strict_rigid (bound_in s) (fixed_in s) s.depth j (term_of c.args.term.now) S c.args.marks.now c.mark_pattern.new.marks c.mark_strict_spine-then-is_rigid.new.marks e c.in_ok-mark_pattern-in-Root-Var-default.ensures (sym c.if-is_rigid.true ∙ c.is_rigid.ensures)) c.mark_strict_spine-then-is_rigid.ensures

pub mark_strict-returns-else-is_rigid : goal.mark_strict-returns-else-is_rigid
mark_strict-returns-else-is_rigid t c =
    let s = c.args.scope.now in
    let j = c.in-Root-Var-default.head in
    let S = spine_of c.in-Root-Var-default.spine in
    let e : term_of c.args.term.now ≡ root (variable j) S = grind (arith, types) in
    strict_flexible (bound_in s) (fixed_in s) s.depth j (term_of c.args.term.now) S c.args.marks.now c.mark_pattern.new.marks e c.in_ok-mark_pattern-in-Root-Var-default.ensures (sym c.if-is_rigid.false ∙ c.is_rigid.ensures)
