use Rattle.std.proofs.Common.{map, option_map, ◌↔◌, ◌≡◌, Some, ap, ◌∙◌, subst}
use Rattle.lf.specs.Entries.{signature_of}
use Rattle.lf.specs.Skeletons.{constant_skeletons}
use Rattle.lf.specs.SkeletonTyping.{HeadSkeleton}
use Rattle.lf.specs.Syntax.{Skeleton}
use Rattle.tw_terms.specs.View.{head_of, skeleton_of, spine_of, term_of}
use Rattle.tw_terms.proofs.Views.{skeleton_of-Base, term_of-Root}
use Rattle.tw_equation.proofs.Skeletons.{of_root}
use Rattle.tw_equation.proofs.fits.+fits.Goals as goal

pub term_has-returns-in-Some : goal.term_has-returns-in-Some
term_has-returns-in-Some t c =
    let κ = constant_skeletons (signature_of c.args.signature.now) in
    let Γ = map skeleton_of c.args.variables.now in
    let head = c.in-Root-Base.head in
    let spine = c.in-Root-Base.spine in
    let family = c.in-Root-Base.field-0-1 in
    of_root κ Γ (term_of c.args.term.now) (head_of head) (spine_of spine) (skeleton_of c.in-Some.taken) (skeleton_of c.args.made.now) family.0 c.spine_has.result
    (ap term_of c.in-Root-Base.is-0 ∙ term_of-Root head spine) (ap skeleton_of c.in-Root-Base.is-1 ∙ skeleton_of-Base family)
    (subst (λ o. (u : Skeleton) → (option_map skeleton_of o ≡ Some u) ↔ HeadSkeleton κ Γ (head_of head) u) c.in-Some.is c.in_ok-taken-in-Root-Base.ensures) c.spine_has.ensures
