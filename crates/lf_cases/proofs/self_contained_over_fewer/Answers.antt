use Rattle.lf_cases.proofs.Subgoals.{self_contained_over_fewer}
use Rattle.lf_cases.proofs.self_contained_over_fewer.Goals as goal

pub returns : goal.returns
returns c = self_contained_over_fewer
