use Rattle.lf_numbered.proofs.ReadyPlacesExamples.{copy_places_are_ready_to_solve, loose_is_not_ready_to_solve, one_place_has_its_terms}
use Rattle.lf_numbered.proofs.places_are_ready_to_solve.Goals as goal

pub returns-clause-copies : goal.returns-clause-copies
returns-clause-copies c = copy_places_are_ready_to_solve

pub returns-clause-terms : goal.returns-clause-terms
returns-clause-terms c = one_place_has_its_terms

pub returns-clause-loose : goal.returns-clause-loose
returns-clause-loose c = loose_is_not_ready_to_solve
