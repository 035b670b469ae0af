use Rattle.std.proofs.Common.{sym, ap, ◌∙◌}
use Rattle.tw_decl.specs.Searching.{first_left}
use Rattle.tw_decl.proofs.Searched.{left_unsolved}
use Rattle.tw_decl.proofs.solving.unsolved.Goals as goal

pub returns-in-Some : goal.returns-in-Some
returns-in-Some c = left_unsolved c.args.session.now c.args.run.now.leaves.items c.args.first c.in-Some.left.now c.leftover.result (sym (c.in-Some.ensures ∙ ap first_left c.deref.ensures.value)) c.leftover.ensures
