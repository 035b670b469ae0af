use Rattle.std.proofs.Common.{◌≡◌, length, map, arith}
use Rattle.std.proofs.lemmas.Grind.{common_steps}
use Rattle.lf.specs.Syntax.{skeleton}
use Rattle.tw_terms.specs.OpenView.{open_term_of, open_type_of}
use Rattle.tw_terms.specs.View.{skeleton_of}
use Rattle.tests_substitution.specs.Kept.{heads_of}
use Rattle.tests_substitution.proofs.Calls.{term_fits_in}
use Rattle.tests_substitution.proofs.substitution.may_substitute.Goals as goal

pub returns : goal.returns
returns c =
    let Ξ = map skeleton_of c.args.around.inner.now in
    let n : length c.args.around.inner.now ≡ length Ξ = grind (arith, common_steps) in
    term_fits_in (heads_of c.args.around.signature.now c.args.around.store.now.now) Ξ (map skeleton_of c.args.around.outer.now) (length c.args.around.inner.now) (skeleton (open_type_of c.args.ty.now)) (skeleton_of c.in_ok-put.put) (open_term_of c.args.arg.now) (open_term_of c.args.body.now) (skeleton_of c.args.made.now) c.term_has_around.result
    c.in_ok-put.ensures n (c.in_ok-term_has.ensures c.if-not-branch.false) c.term_has_around.ensures
