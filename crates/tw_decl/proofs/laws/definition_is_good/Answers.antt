use Rattle.tw_decl.proofs.GoodDefinition.{good}
use Rattle.tw_decl.proofs.laws.definition_is_good.Goals as goal

pub returns : goal.returns
returns c = good
