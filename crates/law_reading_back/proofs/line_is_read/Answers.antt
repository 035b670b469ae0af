use Rattle.law_reading_back.proofs.Back.{line_read}
use Rattle.law_reading_back.proofs.line_is_read.Goals as goal

pub returns : goal.returns
returns c = line_read
