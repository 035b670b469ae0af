use Rattle.tw_putting.proofs.PlainTerms.{all_in_puts, spine_all_in_puts, type_all_in_puts}
use Rattle.tw_putting.proofs.laws.all_in_stays.Goals as goal

pub returns : goal.returns
returns c = λ s k. (all_in_puts s k, spine_all_in_puts s k, type_all_in_puts s k)
