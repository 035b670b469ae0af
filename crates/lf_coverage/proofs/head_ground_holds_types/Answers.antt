use Rattle.lf_coverage.proofs.GroundHolds.{head_ground_holds_types as proved}
use Rattle.lf_coverage.proofs.head_ground_holds_types.Goals as goal

pub returns : goal.returns
returns c = proved
