use Rattle.tw_lexer.proofs.TokensUnique.{fault_unique}
use Rattle.tw_lexer.proofs.laws.fault_is_unique.Goals as goal

pub returns : goal.returns
returns c = fault_unique
