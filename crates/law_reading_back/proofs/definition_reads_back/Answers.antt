use Rattle.law_reading_back.proofs.Defined.{definition_back}
use Rattle.law_reading_back.proofs.definition_reads_back.Goals as goal

pub returns : goal.returns
returns c = definition_back
