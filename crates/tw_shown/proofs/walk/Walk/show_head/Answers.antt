use Rattle.tw_terms.proofs.Views.{head_of-Const}
use Rattle.tw_shown.proofs.Walking.{adds_nothing}
use Rattle.tw_shown.proofs.walk.Walk.show_head.Goals as goal

pub returns-in-Const : goal.returns-in-Const
returns-in-Const c = rw (c.in-Const.is, head_of-Const) (adds_nothing c.args.self.now)
