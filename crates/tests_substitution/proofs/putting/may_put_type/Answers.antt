use Rattle.std.proofs.Common.{◌≡◌, length, map, ap, ◌∙◌, arith}
use Rattle.std.proofs.lemmas.Grind.{common_steps}
use Rattle.lf.specs.Entries.{signature_of}
use Rattle.lf.specs.Skeletons.{family_skeletons}
use Rattle.tw_terms.specs.OpenView.{open_type_of}
use Rattle.tw_terms.specs.View.{skeleton_of}
use Rattle.tests_substitution.proofs.Calls.{put_type_fits}
use Rattle.tests_substitution.proofs.putting.may_put_type.Goals as goal

pub returns : goal.returns
returns c =
    let Ξ = map skeleton_of c.args.around.inner.now in
    let n : length c.args.around.inner.now ≡ length Ξ = grind (arith, common_steps) in
    put_type_fits c.args.around.signature.now (family_skeletons (signature_of c.args.around.signature.now)) Ξ (map skeleton_of c.args.around.outer.now) (map skeleton_of c.deref.result.now) c.args.around.store.now.now (length c.args.around.inner.now) (open_type_of c.args.ty.now) c.type_has.result
    n (ap (map skeleton_of) c.deref.ensures.value ∙ c.in_ok-variables.ensures) c.requires c.type_has.ensures
