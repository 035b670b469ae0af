use Rattle.law_reading_back.proofs.Kept.{definition_kept}
use Rattle.law_reading_back.proofs.defined_is_kept.Goals as goal

pub returns : goal.returns
returns c = definition_kept
