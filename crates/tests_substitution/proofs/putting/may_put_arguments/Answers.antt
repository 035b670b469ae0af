use Rattle.std.proofs.Common.{◌≡◌, length, map, ap, ◌∙◌, arith}
use Rattle.std.proofs.lemmas.Grind.{common_steps}
use Rattle.tw_terms.specs.OpenView.{open_spine_of}
use Rattle.tw_terms.specs.View.{skeleton_of}
use Rattle.tests_substitution.proofs.Calls.{put_spine_fits}
use Rattle.tests_substitution.proofs.putting.may_put_arguments.Goals as goal

pub returns : goal.returns
returns c =
    let Ξ = map skeleton_of c.args.around.inner.now in
    let n : length c.args.around.inner.now ≡ length Ξ = grind (arith, common_steps) in
    put_spine_fits c.args.around.signature.now Ξ (map skeleton_of c.args.around.outer.now) (map skeleton_of c.deref.result.now) c.args.around.store.now.now (length c.args.around.inner.now) (open_spine_of c.args.spine.now) (skeleton_of c.args.taken.now) _ c.spine_has.result
    n (ap (map skeleton_of) c.deref.ensures.value ∙ c.in_ok-variables.ensures) c.requires c.spine_has.ensures
