use Rattle.std.proofs.Common.{[], refl, ℕ, Option, slice_get, List, map, ap, ◌∙◌}
use Rattle.lf.specs.Syntax.{Skeleton}
use Rattle.lf.specs.SkeletonTyping.{HeadSkeletons}
use Rattle.tw_terms.specs.View.{term_of, type_of, skeleton_of}
use Rattle.tw_hered.specs.Known.{heads_of}
use Rattle.tw_hered.proofs.Known.{type_fits_by}
use Rattle.tests_terms.proofs.typed.put_in_newest.Goals as goal

pub instantiate-requires : goal.instantiate-requires
instantiate-requires c =
    let φ : ℕ → Option Skeleton = λ a. slice_get (map (λ x. skeleton_of x.now) c.args.around.heads.now) a in
    let κ : HeadSkeletons = heads_of (map (λ x. skeleton_of x.now) c.args.around.heads.now) in
    let Ξ : List Skeleton = [] in
    let Γ : List Skeleton = map (λ x. skeleton_of x.now) c.args.around.outer.now in
    let Θ : List Skeleton = map (λ x. skeleton_of x.now) c.deref.result.now in
    type_fits_by φ κ Ξ Γ Θ 0 (skeleton_of c.args.skel.now) (term_of c.args.arg.now) (type_of c.args.body.now) refl (ap (map (λ x. skeleton_of x.now)) c.deref.ensures.value ∙ c.in_ok-inside.ensures) (c.in_ok-arg_typed.ensures c.if-not-arg_typed.false) (c.in_ok-body_typed.ensures c.if-not-body_typed.false)
