use Rattle.lf_coverage.proofs.ExamplesOrder.{stores_of_meeting as proved}
use Rattle.lf_coverage.proofs.stores_of_meeting.Goals as goal

pub returns : goal.returns
returns c = proved
