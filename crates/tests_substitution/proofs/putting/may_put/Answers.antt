use Rattle.std.proofs.Common.{◌≡◌, length, map, ap, ◌∙◌, arith}
use Rattle.std.proofs.lemmas.Grind.{common_steps}
use Rattle.tw_terms.specs.OpenView.{open_term_of}
use Rattle.tw_terms.specs.View.{skeleton_of}
use Rattle.tests_substitution.proofs.Calls.{put_fits}
use Rattle.tests_substitution.proofs.putting.may_put.Goals as goal

pub returns : goal.returns
returns c =
    let Ξ = map skeleton_of c.args.around.inner.now in
    let n : length c.args.around.inner.now ≡ length Ξ = grind (arith, common_steps) in
    put_fits c.args.around.signature.now Ξ (map skeleton_of c.args.around.outer.now) (map skeleton_of c.deref.result.now) c.args.around.store.now.now (length c.args.around.inner.now) (open_term_of c.args.term.now) (skeleton_of c.args.made.now) c.term_has.result
    n (ap (map skeleton_of) c.deref.ensures.value ∙ c.in_ok-variables.ensures) c.requires c.term_has.ensures
