use Rattle.std.proofs.Common.{IfOk, IsTrue, map, ap, ◌∙◌, subst}
use Rattle.lf.specs.Entries.{signature_of}
use Rattle.lf.specs.Skeletons.{family_skeletons}
use Rattle.lf.specs.SkeletonTyping.{TypeBySkeletons}
use Rattle.tw_terms.specs.OpenView.{open_type_of}
use Rattle.tw_terms.specs.View.{skeleton_of}
use Rattle.tests_substitution.specs.Kept.{heads_of}
use Rattle.tests_substitution.proofs.substitution.type_has_around.Goals as goal

pub returns : goal.returns
returns c = subst (λ Θ. IfOk c.type_has.result (λ b. IsTrue b → TypeBySkeletons (family_skeletons (signature_of c.args.around.signature.now)) (heads_of c.args.around.signature.now c.args.around.store.now.now) Θ (open_type_of c.args.ty.now))) (ap (map skeleton_of) c.deref.ensures.value ∙ c.in_ok-inside.ensures) c.type_has.ensures
