use Rattle.lf_cases.proofs.Subordinate.{kind_places_below}
use Rattle.lf_cases.proofs.kind_places_are_below.Goals as goal

pub returns : goal.returns
returns c = kind_places_below
