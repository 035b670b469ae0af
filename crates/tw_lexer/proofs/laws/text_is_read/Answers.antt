use Rattle.tw_lexer.proofs.TokensExist.{text_is_read}
use Rattle.tw_lexer.proofs.laws.text_is_read.Goals as goal

pub returns : goal.returns
returns c = text_is_read
