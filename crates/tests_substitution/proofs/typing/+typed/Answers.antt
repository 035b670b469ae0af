use Rattle.std.proofs.Common.{map, IfSome, ap, ◌∙◌, subst}
use Rattle.lf.specs.SkeletonTyping.{HeadSkeleton}
use Rattle.tw_terms.specs.OpenView.{open_head_of, open_spine_of, open_term_of}
use Rattle.tw_terms.specs.View.{skeleton_of}
use Rattle.tw_terms.proofs.OpenViews.{open_term_of-Root}
use Rattle.tw_terms.proofs.Views.{skeleton_of-Base}
use Rattle.tests_substitution.specs.Kept.{heads_of}
use Rattle.tests_substitution.proofs.Heads.{of_root}
use Rattle.tests_substitution.proofs.typing.+typed.Goals as goal

pub term_has-returns-in-Some : goal.term_has-returns-in-Some
term_has-returns-in-Some t c =
    let κ = heads_of c.args.signature.now c.args.store.now.now in
    let Γ = map skeleton_of c.args.variables.now in
    let head = c.in-Root-Base.head in
    let spine = c.in-Root-Base.spine in
    let family = c.in-Root-Base.field-0-1 in
    of_root κ Γ (open_term_of c.args.term.now) (open_head_of head) (open_spine_of spine) (skeleton_of c.in-Some.taken) (skeleton_of c.args.made.now) family.0 c.spine_has.result
    (ap open_term_of c.in-Root-Base.is-0 ∙ open_term_of-Root head spine) (ap skeleton_of c.in-Root-Base.is-1 ∙ skeleton_of-Base family)
    (subst (λ o. IfSome o (λ u. HeadSkeleton κ Γ (open_head_of head) (skeleton_of u))) c.in-Some.is c.in_ok-taken-in-Root-Base.ensures) c.spine_has.ensures
