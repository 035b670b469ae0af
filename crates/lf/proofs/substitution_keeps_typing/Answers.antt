use Rattle.lf.proofs.Substitution.{substitution_keeps_typing, substitution_keeps_types, skeleton_context_of, TypedSubstitution}
use Rattle.lf.proofs.Regular.{substitution_keeps_kinds}
use Rattle.lf.proofs.ToSkeletons.{type_by_skeletons}
use Rattle.lf.proofs.substitution_keeps_typing.Goals as goal

pub returns : goal.returns
returns c = λ Σ ok G D σ g d w.
    let t : TypedSubstitution Σ ok G D σ = record { typed = w; source_skeletons = skeleton_context_of Σ ok G g; target_skeletons = skeleton_context_of Σ ok D d } in
    (λ M A a. substitution_keeps_typing Σ ok G D σ M A t (type_by_skeletons Σ G A a), λ A. substitution_keeps_types Σ ok G D σ A t, λ K. substitution_keeps_kinds Σ ok G D σ K t)
