use Rattle.std.proofs.Common.{refl}
use Rattle.lf.specs.Syntax.{skeleton}
use Rattle.lf.proofs.Substitution.{reduction_keeps_typing, skeleton_context_of}
use Rattle.lf.proofs.ToSkeletons.{type_by_skeletons}
use Rattle.lf.proofs.reduction_keeps_typing.Goals as goal

pub returns : goal.returns
returns c = λ Σ ok D N S A C d a. reduction_keeps_typing Σ ok (skeleton A) D N S A C refl (skeleton_context_of Σ ok D d) (type_by_skeletons Σ D A a)
