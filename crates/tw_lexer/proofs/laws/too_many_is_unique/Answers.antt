use Rattle.tw_lexer.proofs.TokensUnique.{too_many_unique}
use Rattle.tw_lexer.proofs.laws.too_many_is_unique.Goals as goal

pub returns : goal.returns
returns c = too_many_unique
