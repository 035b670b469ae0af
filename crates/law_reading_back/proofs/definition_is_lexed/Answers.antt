use Rattle.law_reading_back.proofs.Defined.{definition_lexed}
use Rattle.law_reading_back.proofs.definition_is_lexed.Goals as goal

pub returns : goal.returns
returns c = definition_lexed
