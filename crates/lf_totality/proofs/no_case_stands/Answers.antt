use Rattle.lf_totality.proofs.ExamplesSplits.{no_case_stands as proved}
use Rattle.lf_totality.proofs.no_case_stands.Goals as goal

pub returns : goal.returns
returns c = proved
