use Rattle.std.proofs.Common.{◌≡◌, ℕ, Option, slice_get, List, length, map, ap, ◌∙◌, arith}
use Rattle.std.proofs.lemmas.Grind.{common_steps}
use Rattle.lf.specs.Syntax.{Skeleton}
use Rattle.lf.specs.SkeletonTyping.{HeadSkeletons}
use Rattle.tw_terms.specs.View.{term_of, type_of, skeleton_of}
use Rattle.tw_hered.specs.Known.{heads_of}
use Rattle.tw_hered.proofs.Known.{type_fits_by}
use Rattle.tests_terms.proofs.typed.put_in_type.Goals as goal

pub substitute_ty-requires : goal.substitute_ty-requires
substitute_ty-requires c =
    let φ : ℕ → Option Skeleton = λ a. slice_get (map (λ x. skeleton_of x.now) c.args.around.heads.now) a in
    let κ : HeadSkeletons = heads_of (map (λ x. skeleton_of x.now) c.args.around.heads.now) in
    let Ξ : List Skeleton = map (λ x. skeleton_of x.now) c.args.around.bound.now in
    let Γ : List Skeleton = map (λ x. skeleton_of x.now) c.args.around.outer.now in
    let Θ : List Skeleton = map (λ x. skeleton_of x.now) c.deref.result.now in
    let n : length c.args.around.bound.now ≡ length Ξ = grind (arith, common_steps) in
    type_fits_by φ κ Ξ Γ Θ (length c.args.around.bound.now) (skeleton_of c.args.skel.now) (term_of c.args.arg.now) (type_of c.args.body.now) n (ap (map (λ x. skeleton_of x.now)) c.deref.ensures.value ∙ c.in_ok-inside.ensures) (c.in_ok-arg_typed.ensures c.if-not-arg_typed.false) (c.in_ok-body_typed.ensures c.if-not-body_typed.false)
