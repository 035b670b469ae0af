use Rattle.lf_numbered.proofs.ReadyPlaces.{needed_offers_are_ready_to_solve, needed_places_are_ready_to_solve, placed_store_has_skeletons}
use Rattle.lf_numbered.proofs.needed_places_are_ready_to_solve.Goals as goal

pub returns-clause-placed : goal.returns-clause-placed
returns-clause-placed c = placed_store_has_skeletons

pub returns-clause-needed : goal.returns-clause-needed
returns-clause-needed c = needed_places_are_ready_to_solve

pub returns-clause-offers : goal.returns-clause-offers
returns-clause-offers c = needed_offers_are_ready_to_solve
