use Rattle.tw_lexer.proofs.Cuts.{done_stays}
use Rattle.tw_lexer.proofs.laws.done_stays.Goals as goal

pub returns : goal.returns
returns c = done_stays
