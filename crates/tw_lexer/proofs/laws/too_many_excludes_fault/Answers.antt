use Rattle.tw_lexer.proofs.TokensUnique.{too_many_no_fault}
use Rattle.tw_lexer.proofs.laws.too_many_excludes_fault.Goals as goal

pub returns : goal.returns
returns c = too_many_no_fault
