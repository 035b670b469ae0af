use Rattle.std.proofs.Common.{sym, ap, ◌∙◌}
use Rattle.tw_decl.specs.Searching.{first_left}
use Rattle.tw_decl.proofs.Searched.{left_unexpected}
use Rattle.tw_decl.proofs.querying.left_over.Goals as goal

pub returns : goal.returns
returns c =
    left_unexpected c.args.session.now c.args.expected c.args.run.now.leaves.items c.args.run.now.end c.args.first c.in-Some.left.now c.leftover.result c.requires.incomplete (sym (c.in-Some.ensures ∙ ap first_left c.deref.ensures.value)) c.leftover.ensures
