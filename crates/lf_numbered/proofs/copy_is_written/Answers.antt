use Rattle.lf_numbered.proofs.ExamplesWriting.{copy_is_written as proved}
use Rattle.lf_numbered.proofs.copy_is_written.Goals as goal

pub returns : goal.returns
returns c = proved
