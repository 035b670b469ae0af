use Rattle.std.proofs.Common.{map, sym, ◌∙◌}
use Rattle.tw_print.specs.ShowEnv.{scene_of}
use Rattle.tw_signature.specs.Goal.{goal_of}
use Rattle.tw_query.specs.Rows.{row_of}
use Rattle.tw_query.proofs.Enough.{none_named}
use Rattle.tw_query.proofs.free.free_names.Goals as goal

pub returns-then-len-eq0 : goal.returns-then-len-eq0
returns-then-len-eq0 c = c.new.ensures.items ∙ none_named (scene_of c.args.env.now) (goal_of c.args.goal.now) c.args.free.now (map row_of c.args.rows.now) (sym c.len.ensures ∙ c.if-len-eq0.true)
