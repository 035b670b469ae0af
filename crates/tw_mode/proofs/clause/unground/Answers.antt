use Rattle.std.proofs.Common.{◌∙◌, ap, subst, true}
use Rattle.lf_checks.specs.Marks.{input_places}
use Rattle.tw_terms.specs.View.{type_of}
use Rattle.tw_mode.specs.Rows.{marks_in}
use Rattle.tw_mode.specs.Scopes.{in_marks}
use Rattle.tw_mode.proofs.Needing.{GoalOutcome, needs_met, needs_no_type}
use Rattle.tw_clause.proofs.Patterns.{on_value}
use Rattle.tw_mode.proofs.Using.{no_of}
use Rattle.tw_mode.proofs.clause.unground.Goals as goal

pub returns-then-not-branch : goal.returns-then-not-branch
returns-then-not-branch c = needs_no_type (marks_in c.args.table.now) (in_marks true c.args.depth c.args.ground.now) (type_of c.args.goal.now) (no_of c.in_ok-hypotheses_use.field-0 c.if-not-branch.true c.in_ok-hypotheses_use.ensures)

pub returns : goal.returns
returns c =
    let m = marks_in c.args.table.now in
    let U = in_marks true c.args.depth c.args.ground.now in
    let A = type_of c.args.goal.now in
    on_value c.first_outside_goal.result _ _ (λ o h. needs_met m U A o (c.in_ok-hypotheses_use.ensures.0 c.if-not-branch.false) (subst (λ ps. GoalOutcome U ps A o) (c.deref.ensures.value ∙ c.in_ok-inputs.ensures ∙ ap (λ f. input_places (m f)) c.target.ensures) h)) c.first_outside_goal.ensures
