use Rattle.law_reading_back.proofs.Back.{open_reads_back}
use Rattle.law_reading_back.proofs.open_text_reads_back.Goals as goal

pub returns : goal.returns
returns c = open_reads_back
