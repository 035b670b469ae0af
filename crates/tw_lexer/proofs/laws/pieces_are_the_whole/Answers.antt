use Rattle.tw_lexer.proofs.Cuts.{cut_after-append}
use Rattle.tw_lexer.proofs.laws.pieces_are_the_whole.Goals as goal

pub returns : goal.returns
returns c = cut_after-append
