use Rattle.std.proofs.Common.{◌++◌, ap, ◌∙◌}
use Rattle.tw_unify.proofs.Stories.{stacked_all}
use Rattle.tw_unify.proofs.work.put_on_top.Goals as goal

pub returns : goal.returns
returns c = stacked_all c.args.work.now.items c.append.new.self.items c.args.equations.items (c.in_ok-append.ensures.items ∙ ap (λ xs. c.args.work.now.items ++ xs) c.reverse.ensures.items)
