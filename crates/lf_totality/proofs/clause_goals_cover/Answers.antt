use Rattle.lf_totality.proofs.EntryGoals.{goals_cover}
use Rattle.lf_totality.proofs.clause_goals_cover.Goals as goal

pub returns : goal.returns
returns c = goals_cover
