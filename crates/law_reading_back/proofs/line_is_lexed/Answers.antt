use Rattle.law_reading_back.proofs.Back.{line_lexed}
use Rattle.law_reading_back.proofs.line_is_lexed.Goals as goal

pub returns : goal.returns
returns c = line_lexed
