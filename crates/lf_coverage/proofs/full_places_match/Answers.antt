use Rattle.lf_coverage.proofs.FullPlaces.{full_places_match}
use Rattle.lf_coverage.proofs.full_places_match.Goals as goal

pub returns : goal.returns
returns c = full_places_match
