use Rattle.law_reading_back.proofs.Defined.{defined_legible}
use Rattle.law_reading_back.proofs.defined_is_legible.Goals as goal

pub returns : goal.returns
returns c = defined_legible
