use Rattle.lf_numbered.proofs.WritingBackTyped.{written_reads_back as proved}
use Rattle.lf_numbered.proofs.written_reads_back.Goals as goal

pub returns : goal.returns
returns c = proved
