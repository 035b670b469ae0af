use Rattle.tw_lexer.proofs.Agreement.{cut_is_the_dot}
use Rattle.tw_lexer.proofs.laws.cut_is_the_dot.Goals as goal

pub returns : goal.returns
returns c = cut_is_the_dot
