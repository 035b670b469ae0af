use Rattle.law_reading_back.proofs.Defined.{definition_read}
use Rattle.law_reading_back.proofs.definition_is_read.Goals as goal

pub returns : goal.returns
returns c = definition_read
