use Rattle.law_reading_back.proofs.Back.{reads_back}
use Rattle.law_reading_back.proofs.text_reads_back.Goals as goal

pub returns : goal.returns
returns c = reads_back
