use Rattle.std.proofs.Common.{◌≡◌, ◌∙◌, ◌∷◌, ◌-◌, ◌+◌, ap, sym, arith, drop, length, Some, rules}
use Rattle.std.specs.List.{slice_get}
use Rattle.std.specs.Option.{option_map}
use Rattle.tw_terms.specs.View.{type_of}
use Rattle.tw_print.specs.SceneView.{scene_in}
use Rattle.tw_print.specs.Names as names
use Rattle.tw_print.proofs.Contexts.{outside_at, entered}
use Rattle.tw_print.proofs.context.page_in.Goals as goal

pub loop-outside-preserved : goal.loop-outside-preserved
loop-outside-preserved c =
    let G = c.args.context.now in
    let A = type_of c.unwrap-ty.result.now in
    let u : c.get.result ≡ Some c.unwrap-ty.result = search rules in
    let g : slice_get G (length G - 1 - c.loop-outside.outside) ≡ Some A = ap (slice_get G) (ap (λ n. n - 1 - c.loop-outside.outside) (sym c.len-count.ensures)) ∙ sym c.get.ensures ∙ ap (option_map (λ a. type_of a.now)) u in
    let d : drop (length G - (c.loop-outside.outside + 1)) G ≡ A ∷ drop (length G - c.loop-outside.outside) G = outside_at G c.loop-outside.outside A (omega arith) g in
    let x : c.in_ok-name.name ≡ names.fresh_name (scene_in c.args.scene.now) c.loop-outside.page.scope (names.lower_base (scene_in c.args.scene.now) A) = c.in_ok-name.ensures ∙ ap (names.fresh_name (scene_in c.args.scene.now) c.loop-outside.page.scope) c.lower_base.ensures in
    let r = entered (scene_in c.args.scene.now) G c.loop-outside.page c.enter.new.self (length G - c.loop-outside.outside) (length G - (c.loop-outside.outside + 1)) A c.in_ok-name.name d x c.loop-outside.invariant.out c.loop-outside.invariant.context c.loop-outside.invariant.scope c.in_ok-enter.ensures in
    record { out = r.out; context = r.context; scope = r.scope }
