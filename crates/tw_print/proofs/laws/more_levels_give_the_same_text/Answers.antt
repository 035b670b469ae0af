use Rattle.tw_print.proofs.MoreLevels.{more_levels}
use Rattle.tw_print.proofs.laws.more_levels_give_the_same_text.Goals as goal

pub returns : goal.returns
returns c = more_levels
