use Rattle.lf_numbered.proofs.WritingBack.{written_is_read_back as proved}
use Rattle.lf_numbered.proofs.written_is_read_back.Goals as goal

pub returns : goal.returns
returns c = proved
