use Rattle.lf_coverage.proofs.OutputModed.{moded_goals_are_typed, strict_goals_are_typed}
use Rattle.lf_coverage.proofs.moded_goals_are_typed.Goals as goal

pub returns-clause-alone : goal.returns-clause-alone
returns-clause-alone c = moded_goals_are_typed

pub returns-clause-beside : goal.returns-clause-beside
returns-clause-beside c = strict_goals_are_typed
