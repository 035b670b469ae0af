use Rattle.tw_lexer.proofs.TokensUnique.{too_many_excludes}
use Rattle.tw_lexer.proofs.laws.too_many_excludes_tokens.Goals as goal

pub returns : goal.returns
returns c = too_many_excludes
