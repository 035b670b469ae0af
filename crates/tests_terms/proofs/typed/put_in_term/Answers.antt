use Rattle.std.proofs.Common.{◌≡◌, List, length, map, ap, ◌∙◌, arith}
use Rattle.std.proofs.lemmas.Grind.{common_steps}
use Rattle.lf.specs.Syntax.{Skeleton}
use Rattle.lf.specs.SkeletonTyping.{HeadSkeletons}
use Rattle.tw_terms.specs.View.{term_of, skeleton_of}
use Rattle.tw_hered.specs.Known.{heads_of}
use Rattle.tw_hered.proofs.Known.{term_fits_by}
use Rattle.tests_terms.proofs.typed.put_in_term.Goals as goal

pub substitute-requires : goal.substitute-requires
substitute-requires c =
    let κ : HeadSkeletons = heads_of (map (λ x. skeleton_of x.now) c.args.around.heads.now) in
    let Ξ : List Skeleton = map (λ x. skeleton_of x.now) c.args.around.bound.now in
    let Γ : List Skeleton = map (λ x. skeleton_of x.now) c.args.around.outer.now in
    let Θ : List Skeleton = map (λ x. skeleton_of x.now) c.deref.result.now in
    let n : length c.args.around.bound.now ≡ length Ξ = grind (arith, common_steps) in
    term_fits_by κ Ξ Γ Θ (length c.args.around.bound.now) (skeleton_of c.args.skel.now) (term_of c.args.arg.now) (term_of c.args.body.now) (skeleton_of c.args.made.now) n (ap (map (λ x. skeleton_of x.now)) c.deref.ensures.value ∙ c.in_ok-inside.ensures) (c.in_ok-arg_typed.ensures c.if-not-arg_typed.false) (c.in_ok-body_typed.ensures c.if-not-body_typed.false)
