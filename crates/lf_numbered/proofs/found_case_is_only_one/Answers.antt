use Rattle.lf_numbered.proofs.OnlyCase.{found_is_not_refuted, offer_has_one_case}
use Rattle.lf_numbered.proofs.found_case_is_only_one.Goals as goal

pub returns-clause-one : goal.returns-clause-one
returns-clause-one c = offer_has_one_case

pub returns-clause-found : goal.returns-clause-found
returns-clause-found c = found_is_not_refuted
