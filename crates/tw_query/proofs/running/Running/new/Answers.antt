use Rattle.std.proofs.Common.{refl}
use Rattle.tw_signature.specs.Goal.{goal_of}
use Rattle.tw_query.proofs.Steps.{begins}
use Rattle.tw_query.proofs.running.Running.new.Goals as goal

pub returns : goal.returns
returns c =
    begins c.args.signature.now c.is_canonical.ensures (goal_of c.args.goal.now) c.requires.context c.requires.goal (record { search = c.in_ok-search.search; leaves = c.new-2.result; answers = 0 })
    (c.in_ok-search.ensures.stands c.args.signature.now c.is_canonical.ensures c.requires.context c.requires.goal) c.in_ok-search.ensures.tries c.new-2.ensures.items refl
