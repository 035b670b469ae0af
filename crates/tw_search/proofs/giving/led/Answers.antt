use Rattle.tw_search.specs.Beside.{leads_to_itself}
use Rattle.tw_search.proofs.giving.led.Goals as goal

pub returns-in_default : goal.returns-in_default
returns-in_default c = leads_to_itself
