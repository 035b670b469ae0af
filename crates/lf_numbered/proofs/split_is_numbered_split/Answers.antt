use Rattle.lf_numbered.proofs.EntryPatternsForms.{split_is_numbered_split as proved}
use Rattle.lf_numbered.proofs.split_is_numbered_split.Goals as goal

pub returns : goal.returns
returns c = proved
