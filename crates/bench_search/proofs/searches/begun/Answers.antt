use Rattle.std.proofs.Common.{[]}
use Rattle.tw_search.specs.Standing.{stands}
use Rattle.tw_signature.specs.Goal.{goal_of}
use Rattle.bench_search.proofs.searches.begun.Goals as goal

pub returns : goal.returns
returns c = stands (goal_of c.args.goal.now) [] _ (c.in_ok-search.ensures.stands c.args.signature.now c.is_canonical.ensures c.requires.context c.requires.goal)
