use Rattle.lf.proofs.ToSkeletons.{typed_has_skeleton, type_by_skeletons, kind_by_skeletons}
use Rattle.lf.proofs.typed_has_skeleton.Goals as goal

pub returns : goal.returns
returns c = λ Σ G. (typed_has_skeleton Σ G, type_by_skeletons Σ G, kind_by_skeletons Σ G)
