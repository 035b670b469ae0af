use Rattle.std.proofs.Common.{◌≡◌, ◌+◌, ◌∙◌, ap, arith, length, drop}
use Rattle.lf.specs.Syntax.{lambda, root}
use Rattle.tw_signature.proofs.Marking.{args_at}
use Rattle.tw_terms.specs.View.{head_of, term_of, spine_of, args_of}
use Rattle.tw_terms.proofs.Args.{types}
use Rattle.tw_signature.proofs.Marking.{on_ok, spine_step, spine_done, lambda_marked, root_marked, marked_length}
use Rattle.tw_signature.proofs.shape.+mark.Goals as goal

pub mark_spine-loop-arg-preserved : goal.mark_spine-loop-arg-preserved
mark_spine-loop-arg-preserved t c =
    let items = c.deref-arg-items.result.now in
    record {
      so_far = spine_step c.args.depth (args_of (drop c.loop-arg.arg-index items)) (args_of (drop (c.loop-arg.arg-index + 1) items)) (term_of c.arg-item.result) c.loop-arg.marks c.mark_term.new.marks (args_at items c.loop-arg.arg-index c.arg-item.result (omega arith) c.arg-item.is) c.in_ok-mark_term.ensures ∙ c.loop-arg.invariant.so_far;
      len = ap length c.in_ok-mark_term.ensures ∙ marked_length _ _ _ ∙ c.loop-arg.invariant.len;
    }

pub mark_spine-returns : goal.mark_spine-returns
mark_spine-returns t c =
    let items = c.deref-arg-items.result.now in
    spine_done c.args.depth c.loop-arg.arg-index items (spine_of c.args.spine.now) c.args.marks.now c.loop-arg.marks (omega arith) c.loop-arg.invariant.so_far (grind (arith, types))

pub mark_term-returns-in_ok-inside-in-Lam : goal.mark_term-returns-in_ok-inside-in-Lam
mark_term-returns-in_ok-inside-in-Lam t c =
    let e : term_of c.args.term.now ≡ lambda (term_of c.deref.result.now) = grind (arith, types) in
    on_ok c.mark_term.result _ _ (lambda_marked c.args.depth c.in_ok-inside-in-Lam.inside (term_of c.args.term.now) (term_of c.deref.result.now) c.args.marks.now c.mark_term.new.marks e c.in_ok-inside-in-Lam.ensures c.requires) c.mark_term.ensures

pub mark_term-returns-in-Root : goal.mark_term-returns-in-Root
mark_term-returns-in-Root t c =
    let e : term_of c.args.term.now ≡ root (head_of c.in-Root.head) (spine_of c.in-Root.spine) = grind (arith, types) in
    on_ok c.mark_spine.result _ _ (root_marked c.args.depth (term_of c.args.term.now) (head_of c.in-Root.head) (spine_of c.in-Root.spine) c.args.marks.now c.mark_head.new.marks c.mark_spine.new.marks e c.mark_head.ensures) c.mark_spine.ensures
