use Rattle.law_reading_back.proofs.Defined.{open_definition_back}
use Rattle.law_reading_back.proofs.open_definition_reads_back.Goals as goal

pub returns : goal.returns
returns c = open_definition_back
