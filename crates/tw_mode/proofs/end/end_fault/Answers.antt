use Rattle.std.proofs.Common.{◌≡◌, ◌∙◌, ap, arith, length, subst, true}
use Rattle.lf_unification.specs.Search.{occurs_spine}
use Rattle.lf_checks.specs.Modes.{occurs_at}
use Rattle.tw_signature.proofs.Marking.{marked_length}
use Rattle.tw_signature.specs.Marks.{marked}
use Rattle.tw_terms.specs.View.{spine_of}
use Rattle.tw_terms.proofs.Args.{types}
use Rattle.tw_mode.specs.Allowed.{allowed_in}
use Rattle.tw_mode.specs.Ends.{AreAllTrue}
use Rattle.tw_mode.specs.Rows.{marks_in}
use Rattle.tw_mode.specs.Scopes.{in_marks}
use Rattle.tw_mode.proofs.Ending.{LostOutcome, all_stable, end_nowhere, end_somewhere, settled_count}
use Rattle.tw_clause.proofs.Patterns.{on_value}
use Rattle.tw_mode.proofs.Using.{no_of}
use Rattle.tw_mode.proofs.end.end_fault.Goals as goal

pub is_lost_nowhere-requires : goal.is_lost_nowhere-requires
is_lost_nowhere-requires c =
    let e = c.args.ending.now in
    let q : length c.deref.result.now ≡ e.depth = ap length c.deref.ensures.value ∙ settled_count c.args.table.now e.depth c.args.family.0 (spine_of c.args.head.now) e.ground.now e.excused.now c.in_ok-settled.settled.items c.requires.ground c.requires.excused c.in_ok-settled.ensures in
    omega (arith, q)

pub returns-then-branch : goal.returns-then-branch
returns-then-branch c =
    let e = c.args.ending.now in
    end_nowhere c.args.table.now e.depth c.args.family.0 (spine_of c.args.head.now) e.ground.now e.excused.now c.in_ok-settled.settled.items c.requires.ground c.requires.excused c.in_ok-settled.ensures (subst (λ xs. AreAllTrue (marked e.depth (λ i. occurs_spine i (spine_of c.args.head.now)) xs) → ⊥) c.deref.ensures.value (c.in_ok-is_lost_nowhere.ensures.0 c.if-branch.true))

pub mark_at-requires : goal.mark_at-requires
mark_at-requires c =
    let e = c.args.ending.now in
    let q : length c.deref_mut.result.now ≡ e.depth = ap length c.deref_mut.ensures.value ∙ settled_count c.args.table.now e.depth c.args.family.0 (spine_of c.args.head.now) e.ground.now e.excused.now c.in_ok-settled.settled.items c.requires.ground c.requires.excused c.in_ok-settled.ensures in
    omega (arith, q)

pub first_lost-requires-clause-settled : goal.first_lost-requires-clause-settled
first_lost-requires-clause-settled c =
    let e = c.args.ending.now in
    let p : c.deref-3.result.now ≡ c.mark_at.new.marks = grind (arith, types) in
    let q : length c.ground_set-settled.result.marks.now ≡ e.depth = ap length (c.ground_set-settled.ensures.marks ∙ p ∙ c.in_ok-mark_at.ensures) ∙ marked_length _ _ _ ∙ ap length c.deref_mut.ensures.value ∙ settled_count c.args.table.now e.depth c.args.family.0 (spine_of c.args.head.now) e.ground.now e.excused.now c.in_ok-settled.settled.items c.requires.ground c.requires.excused c.in_ok-settled.ensures in
    let d = c.ground_set-settled.ensures.depth in
    omega (arith, q, d)

pub returns : goal.returns
returns c =
    let e = c.args.ending.now in
    let S = spine_of c.args.head.now in
    let m = marks_in c.args.table.now c.args.family.0 in
    let L = allowed_in c.ground_set-settled.result in
    let p : c.deref-3.result.now ≡ c.mark_at.new.marks = grind (arith, types) in
    let all = all_stable _ (no_of c.in_ok-is_lost_nowhere.field-0 c.if-branch.false c.in_ok-is_lost_nowhere.ensures) in
    on_value c.first_lost.result _ _ (λ o h. end_somewhere c.args.table.now e.depth c.args.family.0 S e.ground.now e.excused.now c.in_ok-settled.settled.items c.requires.ground c.requires.excused c.in_ok-settled.ensures (subst (λ xs. AreAllTrue (marked e.depth (λ i. occurs_spine i S) xs)) c.deref.ensures.value all) c.deref-2.result.now c.mark_at.new.marks L o (c.deref-2.ensures.value ∙ c.in_ok-outputs.ensures) (c.in_ok-mark_at.ensures ∙ ap (marked e.depth (λ i. occurs_at c.deref-2.result.now i S)) c.deref_mut.ensures.value) (c.ground_set-settled.ensures.set ∙ ap (in_marks true e.depth) p) (subst (λ X. LostOutcome X L 1 m S o) c.ground_set-ground.ensures.set (subst (λ ms. LostOutcome (allowed_in c.ground_set-ground.result) L 1 ms S o) c.marks.ensures h))) c.first_lost.ensures
