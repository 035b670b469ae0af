use Rattle.tw_metas.proofs.Marks.{mark_is_kept}
use Rattle.tw_metas.proofs.laws.mark_is_kept.Goals as goal

pub returns : goal.returns
returns c = mark_is_kept
