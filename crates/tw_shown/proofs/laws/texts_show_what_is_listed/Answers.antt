use Rattle.tw_shown.proofs.OnlyShown.{only_shown}
use Rattle.tw_shown.proofs.laws.texts_show_what_is_listed.Goals as goal

pub returns : goal.returns
returns c = only_shown
