use Rattle.lf_numbered.proofs.ReadInstance.{reading_keeps_typing as proved}
use Rattle.lf_numbered.proofs.reading_keeps_typing.Goals as goal

pub returns : goal.returns
returns c = proved
