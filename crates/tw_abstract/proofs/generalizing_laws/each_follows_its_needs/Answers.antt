use Rattle.tw_abstract.proofs.OrderLaws.{after_needs}
use Rattle.tw_abstract.proofs.generalizing_laws.each_follows_its_needs.Goals as goal

pub returns : goal.returns
returns c = λ es ms o. after_needs es ms o.0
