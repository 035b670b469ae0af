use Rattle.std.proofs.Common.{◌∙◌, ap}
use Rattle.lf_checks.specs.Marks.{free_places}
use Rattle.tw_signature.proofs.Marking.{on_ok}
use Rattle.tw_terms.specs.View.{type_of}
use Rattle.tw_mode.specs.Rows.{marks_in}
use Rattle.tw_mode.proofs.Walking.{free_marked}
use Rattle.tw_mode.proofs.clause.mark_free.Goals as goal

pub returns : goal.returns
returns c = on_ok c.mark_goal.result _ _ (free_marked (marks_in c.args.table.now) c.args.depth (type_of c.args.goal.now) c.deref.result.now c.args.excused.now c.mark_goal.new.marks (c.deref.ensures.value ∙ c.in_ok-places.ensures ∙ ap (λ f. free_places (marks_in c.args.table.now f)) c.target.ensures)) c.mark_goal.ensures
