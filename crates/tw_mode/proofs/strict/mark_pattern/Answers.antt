use Rattle.std.proofs.Common.{◌∙◌, sym}
use Rattle.tw_mode.proofs.Strictness.{a_pattern, no_pattern}
use Rattle.tw_mode.proofs.strict.mark_pattern.Goals as goal

pub returns-else-branch : goal.returns-else-branch
returns-else-branch c = no_pattern c.args.scope.now.depth c.args.variable _ c.args.marks.now (sym c.in_ok-is_pattern.ensures ∙ c.if-branch.false)

pub returns-then-branch : goal.returns-then-branch
returns-then-branch c = a_pattern c.args.scope.now.depth c.args.variable _ c.args.marks.now c.mark_variable.new.marks (sym c.in_ok-is_pattern.ensures ∙ c.if-branch.true) c.mark_variable.ensures
