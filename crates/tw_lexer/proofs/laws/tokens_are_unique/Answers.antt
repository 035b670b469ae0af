use Rattle.tw_lexer.proofs.TokensUnique.{tokens_unique}
use Rattle.tw_lexer.proofs.laws.tokens_are_unique.Goals as goal

pub returns : goal.returns
returns c = tokens_unique
