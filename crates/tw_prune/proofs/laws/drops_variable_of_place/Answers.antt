use Rattle.tw_prune.proofs.Meanings.{drops_variable}
use Rattle.tw_prune.proofs.laws.drops_variable_of_place.Goals as goal

pub returns : goal.returns
returns c = drops_variable
