use Rattle.std.proofs.Common.{◌≡◌, ◌+◌, ◌∙◌, ap, arith, drop, get_or, map, suc, subst, sym, Some, None}
use Rattle.std.proofs.Math.ListN.{drop_of_length-le}
use Rattle.tw_signature.proofs.Marking.{args_at}
use Rattle.tw_clause.specs.View.{mark_of}
use Rattle.tw_terms.specs.View.{args_of, spine_of, term_of}
use Rattle.tw_terms.proofs.Args.{types}
use Rattle.tw_mode.specs.Allowed.{allowed_in}
use Rattle.tw_mode.proofs.Ending.{LostOutcome, argument_fails, argument_passes, no_arguments_left, no_marks_left}
use Rattle.tw_mode.proofs.Using.{no_of}
use Rattle.tw_mode.proofs.end.first_lost.Goals as goal

pub returns-then-place-marks : goal.returns-then-place-marks
returns-then-place-marks c =
    let items = c.args.head.now.args.items in
    let k = c.loop-place.place in
    let U = allowed_in c.args.ground.now in
    let L = allowed_in c.args.settled.now in
    let whole : args_of items ≡ spine_of c.args.head.now = grind (arith, types) in
    subst (λ S. LostOutcome U L 1 (map mark_of c.args.marks.now) S None) whole (c.loop-place.invariant None (no_marks_left U L (suc k) (map mark_of (drop k c.args.marks.now)) (args_of (drop k items)) (ap (map mark_of) (drop_of_length-le c.args.marks.now (omega arith)))))

pub returns-then-branch : goal.returns-then-branch
returns-then-branch c =
    let items = c.args.head.now.args.items in
    let k = c.loop-place.place in
    let U = allowed_in c.args.ground.now in
    let L = allowed_in c.args.settled.now in
    let whole : args_of items ≡ spine_of c.args.head.now = grind (arith, types) in
    let e = args_at items k c.arg-item.result (omega arith) (c.arg-item.is ∙ ap (λ xs. get_or xs k c.arg-item.result) c.deref-arg-items.ensures.value) in
    subst (λ j. LostOutcome U L 1 (map mark_of c.args.marks.now) (spine_of c.args.head.now) (Some j)) (sym c.in_ok-one_more.ensures)
    (subst (λ S. LostOutcome U L 1 (map mark_of c.args.marks.now) S (Some (suc k))) whole
    (c.loop-place.invariant (Some (suc k)) (argument_fails U L (suc k) (map mark_of (drop k c.args.marks.now)) (mark_of c.nth_mark.result) (map mark_of (drop (suc k) c.args.marks.now)) (args_of (drop k items)) (args_of (drop (k + 1) items)) (term_of c.arg-item.result) c.nth_mark.ensures e (c.in_ok-is_lost.ensures.0 c.if-branch.true))))

pub loop-place-preserved : goal.loop-place-preserved
loop-place-preserved c = λ o h.
    let items = c.args.head.now.args.items in
    let k = c.loop-place.place in
    let U = allowed_in c.args.ground.now in
    let L = allowed_in c.args.settled.now in
    let e = args_at items k c.arg-item.result (omega arith) (c.arg-item.is ∙ ap (λ xs. get_or xs k c.arg-item.result) c.deref-arg-items.ensures.value) in
    let q : k + 1 ≡ suc k = omega arith in
    c.loop-place.invariant o (argument_passes U L (suc k) (map mark_of (drop k c.args.marks.now)) (mark_of c.nth_mark.result) (map mark_of (drop (suc k) c.args.marks.now)) (args_of (drop k items)) (args_of (drop (k + 1) items)) (term_of c.arg-item.result) o c.nth_mark.ensures e (no_of c.in_ok-is_lost.field-0 c.if-branch.false c.in_ok-is_lost.ensures) (subst (λ n. LostOutcome U L (suc n) (map mark_of (drop n c.args.marks.now)) (args_of (drop (k + 1) items)) o) q h))

pub returns : goal.returns
returns c =
    let items = c.args.head.now.args.items in
    let k = c.loop-place.place in
    let U = allowed_in c.args.ground.now in
    let L = allowed_in c.args.settled.now in
    let whole : args_of items ≡ spine_of c.args.head.now = grind (arith, types) in
    subst (λ S. LostOutcome U L 1 (map mark_of c.args.marks.now) S None) whole (c.loop-place.invariant None (no_arguments_left U L (suc k) k (map mark_of (drop k c.args.marks.now)) items (omega arith)))
