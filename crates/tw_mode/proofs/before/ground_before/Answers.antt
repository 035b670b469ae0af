use Rattle.std.proofs.Common.{◌≡◌, ◌+◌, ◌∙◌, ap, arith, drop, length, subst}
use Rattle.lf_checks.specs.ModeRows.{marks_of, or_no_marks}
use Rattle.tw_clause.proofs.Patterns.{on_value}
use Rattle.tw_mode.specs.Before.{AreGroundBefore}
use Rattle.tw_mode.specs.ModeTables.{mode_rows}
use Rattle.tw_mode.specs.Rows.{marks_in}
use Rattle.tw_mode.proofs.Reaching.{own_ground}
use Rattle.tw_mode.proofs.Tabling.{rows_have}
use Rattle.tw_mode.proofs.before.ground_before.Goals as goal
use mathlib.Core.Path.{fun_ext}

pub returns : goal.returns
returns c =
    let tab = c.of-table.result in
    let d = c.args.clause.now in
    let es = c.in_ok-entries.entries.items in
    let ms = c.in_ok-ground.ground.items in
    let same : marks_in tab ≡ marks_of (mode_rows c.args.modes.now) = fun_ext (λ f. ap or_no_marks (c.of-table.ensures f ∙ rows_have c.args.modes.now f)) in
    let n = c.in_ok-ground.ensures.len ∙ ap (λ xs. length xs + length d.variables) c.deref.ensures.value in
    let l = c.len.ensures in
    let start : c.len.result ≡ length es = omega (arith, l) in
    let own = c.past.ensures ∙ ap (drop c.len.result) c.deref-2.ensures.value ∙ ap (λ k. drop k ms) start in
    on_value c.from_slice.result _ _ (λ v e p is. subst (λ m. AreGroundBefore m p c.args.subgoal v.items) same (own_ground d p is (marks_in tab) es ms v.items c.args.subgoal n (e ∙ own) (c.in_ok-ground.ensures.ground p is))) c.from_slice.ensures.items
