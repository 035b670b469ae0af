use Rattle.lf_numbered.proofs.EntryPatternsTyped.{variable_is_typed as proved}
use Rattle.lf_numbered.proofs.variable_is_typed.Goals as goal

pub returns : goal.returns
returns c = proved
