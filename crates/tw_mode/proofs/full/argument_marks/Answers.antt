use Rattle.std.proofs.Common.{◌≡◌, ◌∙◌, ◌+◌, ◌++◌, ap, arith, drop, map, reverse}
use Rattle.lf_checks.specs.ModeForms.{argument_marks as marks_of_spine, variable_mark as mark_of_variable}
use Rattle.tw_clause.specs.View.{mark_of}
use Rattle.tw_signature.proofs.Marking.{args_at}
use Rattle.tw_terms.specs.View.{args_of, spine_of, term_of}
use Rattle.tw_terms.proofs.Args.{types}
use Rattle.tw_mode.proofs.Placing.{placed_all, placed_next}
use Rattle.tw_mode.proofs.full.argument_marks.Goals as goal

pub loop-arg-preserved : goal.loop-arg-preserved
loop-arg-preserved c =
    let items = c.deref-arg-items.result.now in
    let k = c.loop-arg.arg-index in
    let m = reverse (map mark_of c.args.marks.now) in
    ap (λ xs. map mark_of xs ++ marks_of_spine m (args_of (drop (k + 1) items))) c.in_ok-push.ensures.items
    ∙ placed_next m c.loop-arg.placed.items c.variable_mark.result (term_of c.arg-item.result) (args_of (drop k items)) (args_of (drop (k + 1) items)) (args_at items k c.arg-item.result (omega arith) c.arg-item.is) (c.variable_mark.ensures ∙ ap (mark_of_variable m) c.in_ok-variable_at_head.ensures)
    ∙ c.loop-arg.invariant

pub returns : goal.returns
returns c =
    let items = c.deref-arg-items.result.now in
    let whole : spine_of c.args.spine.now ≡ args_of items = grind (arith, types) in
    placed_all (reverse (map mark_of c.args.marks.now)) (map mark_of c.loop-arg.placed.items) items c.loop-arg.arg-index (spine_of c.args.spine.now) (omega arith) c.loop-arg.invariant whole
