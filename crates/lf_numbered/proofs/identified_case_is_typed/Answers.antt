use Rattle.lf_numbered.proofs.MeetsReadyIdentified.{identified_is_typed}
use Rattle.lf_numbered.proofs.MeetsReadyPlaces.{placed_case_is_typed}
use Rattle.lf_numbered.proofs.identified_case_is_typed.Goals as goal

pub returns-clause-identified : goal.returns-clause-identified
returns-clause-identified c = identified_is_typed

pub returns-clause-placed : goal.returns-clause-placed
returns-clause-placed c = placed_case_is_typed
