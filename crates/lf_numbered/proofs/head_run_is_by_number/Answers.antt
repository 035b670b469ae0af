use Rattle.lf_numbered.proofs.EntryPatternsForms.{head_run_is_by_number as proved}
use Rattle.lf_numbered.proofs.head_run_is_by_number.Goals as goal

pub returns : goal.returns
returns c = proved
