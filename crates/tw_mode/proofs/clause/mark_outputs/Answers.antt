use Rattle.std.proofs.Common.{◌∙◌, ap}
use Rattle.lf_checks.specs.Marks.{output_places}
use Rattle.tw_signature.proofs.Marking.{on_ok}
use Rattle.tw_terms.specs.View.{type_of}
use Rattle.tw_mode.specs.Rows.{marks_in}
use Rattle.tw_clause.specs.Patterns.{newest}
use Rattle.tw_mode.specs.Scopes.{bound_in, fixed_in}
use Rattle.tw_mode.proofs.Walking.{outputs_marked}
use Rattle.tw_mode.proofs.clause.mark_outputs.Goals as goal

pub returns : goal.returns
returns c =
    let s = c.args.scope.now in
    on_ok c.mark_strict_goal.result _ _ (outputs_marked (marks_in c.args.table.now) (fixed_in s) (bound_in s) s.depth (type_of c.args.goal.now) c.deref.result.now c.args.ground.now c.mark_strict_goal.new.marks (c.deref.ensures.value ∙ c.in_ok-places.ensures ∙ ap (λ f. output_places (marks_in c.args.table.now f)) c.target.ensures) (ap newest c.requires.head)) c.mark_strict_goal.ensures
