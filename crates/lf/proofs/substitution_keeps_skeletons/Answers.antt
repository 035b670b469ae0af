use Rattle.lf.proofs.SkeletonTyping.{substitution_keeps_skeletons}
use Rattle.lf.proofs.substitution_keeps_skeletons.Goals as goal

pub returns : goal.returns
returns c = substitution_keeps_skeletons
