use Rattle.std.proofs.Common.{◌+◌, ◌∙◌, ap, ap₂}
use Rattle.tw_signature.proofs.Marking.{on_ok}
use Rattle.tw_terms.specs.View.{spine_of}
use Rattle.tw_mode.specs.Rows.{marks_in}
use Rattle.tw_mode.proofs.Reaching.{solved_marked}
use Rattle.tw_mode.proofs.before.mark_solved.Goals as goal

pub returns : goal.returns
returns c =
    let s = c.args.scope.now in
    let g = c.args.goal.now in
    let i = c.in_ok-inside.inside in
    on_ok c.mark_strict_at.result _ _ (solved_marked (marks_in c.args.table.now) c.deref.result.now g.context g.family.0 (spine_of g.args) s.fixed.now i.fixed.now s.depth i.depth i.bound c.args.ground.now c.mark_strict_at.new.marks (c.deref.ensures.value ∙ c.in_ok-places.ensures) (c.in_ok-inside.ensures.depth ∙ ap (λ n. s.depth + n) c.len.ensures) (c.in_ok-inside.ensures.bound ∙ ap₂ (λ a b. a + b) c.requires.head c.len.ensures) c.in_ok-inside.ensures.fixed c.requires.fixed c.requires.marks) c.mark_strict_at.ensures
