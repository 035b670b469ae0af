use Rattle.tw_unify.proofs.Stories.{stacked_push}
use Rattle.tw_unify.proofs.work.put_back.Goals as goal

pub returns : goal.returns
returns c = stacked_push c.args.work.now.items c.push.new.self.items c.args.equation c.in_ok-push.ensures.items
