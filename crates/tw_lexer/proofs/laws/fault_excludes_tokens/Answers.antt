use Rattle.tw_lexer.proofs.TokensUnique.{fault_excludes}
use Rattle.tw_lexer.proofs.laws.fault_excludes_tokens.Goals as goal

pub returns : goal.returns
returns c = fault_excludes
