use Rattle.std.proofs.Common.{map}
use Rattle.lf.specs.Syntax.{skeleton}
use Rattle.tw_terms.specs.OpenView.{open_spine_of, open_term_of, open_type_of}
use Rattle.tw_terms.specs.View.{skeleton_of}
use Rattle.tw_terms.proofs.Views.{skeleton_of-Base}
use Rattle.tests_substitution.specs.Kept.{heads_of}
use Rattle.tests_substitution.proofs.Calls.{applies_in}
use Rattle.tests_substitution.proofs.substitution.may_apply.Goals as goal

pub returns : goal.returns
returns c =
    let family = c.family_of.result in
    applies_in (heads_of c.args.around.signature.now c.args.around.store.now.now) (map skeleton_of c.args.around.outer.now) (skeleton (open_type_of c.args.ty.now)) (skeleton_of c.in_ok-taken.taken) _ (open_term_of c.args.term.now) (open_spine_of c.args.spine.now) c.spine_has.result
    c.in_ok-taken.ensures (family.0, skeleton_of-Base family) (c.in_ok-term_has.ensures c.if-not-branch.false) c.spine_has.ensures
