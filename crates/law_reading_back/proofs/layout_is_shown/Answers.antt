use Rattle.law_reading_back.proofs.Back.{layout_shown}
use Rattle.law_reading_back.proofs.layout_is_shown.Goals as goal

pub returns : goal.returns
returns c = layout_shown
