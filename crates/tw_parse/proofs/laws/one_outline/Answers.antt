use Rattle.tw_parse.proofs.OneDeclaration.{one_outline}
use Rattle.tw_parse.proofs.laws.one_outline.Goals as goal

pub returns : goal.returns
returns c = one_outline
