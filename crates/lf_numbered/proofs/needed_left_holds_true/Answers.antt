use Rattle.lf_numbered.proofs.NeededLeft.{needed_candidate_takes, needed_deep_run_meets, needed_left_holds_true, offered_takes_below, reached_is_beside}
use Rattle.lf_numbered.proofs.needed_left_holds_true.Goals as goal

pub returns-clause-offered : goal.returns-clause-offered
returns-clause-offered c = offered_takes_below

pub returns-clause-beside : goal.returns-clause-beside
returns-clause-beside c = reached_is_beside

pub returns-clause-takes : goal.returns-clause-takes
returns-clause-takes c = needed_candidate_takes

pub returns-clause-left : goal.returns-clause-left
returns-clause-left c = needed_left_holds_true

pub returns-clause-deep : goal.returns-clause-deep
returns-clause-deep c = needed_deep_run_meets
