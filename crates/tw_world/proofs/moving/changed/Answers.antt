use Rattle.std.proofs.Common.{◌∙◌, ap, sym}
use Rattle.tw_world.specs.Changes.{change_of}
use Rattle.tw_world.proofs.Moved.{front_other, front_same}
use Rattle.tw_clause.proofs.Patterns.{on_value}
use Rattle.tw_world.proofs.moving.changed.Goals as goal

pub returns-then-variable-newest : goal.returns-then-variable-newest
returns-then-variable-newest c = sym (ap (λ x. change_of x c.args.variable) c.in-Front.is ∙ front_same c.in-Front.newest c.args.variable c.if-variable-newest.true)

pub returns-else-variable-newest : goal.returns-else-variable-newest
returns-else-variable-newest c = on_value c.one_more.result _ _ (λ n h. h ∙ sym (ap (λ x. change_of x c.args.variable) c.in-Front.is ∙ front_other c.in-Front.newest c.args.variable c.if-variable-newest.false)) c.one_more.ensures
