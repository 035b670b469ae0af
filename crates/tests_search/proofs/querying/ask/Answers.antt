use Rattle.tw_signature.specs.Goal.{goal_of}
use Rattle.tests_search.proofs.EachLeaf.{all_shown}
use Rattle.tests_search.proofs.querying.ask.Goals as goal

pub show_run-requires-clause-shown : goal.show_run-requires-clause-shown
show_run-requires-clause-shown c = all_shown c.args.signature.now (goal_of c.args.goal.now) c.in-Ok.ensures.run.nodes _ c.in-Ok.ensures.run.shown
