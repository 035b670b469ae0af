use Rattle.std.proofs.Common.{◌≡◌, ◌∙◌, Some, ap, sym}
use Rattle.std.specs.List.{slice_get}
use Rattle.std.specs.Option.{option_map}
use Rattle.tw_terms.specs.View.{type_of}
use Rattle.tw_equation.proofs.Skeletons.{one_skeleton}
use Rattle.tw_equation.proofs.fits.skeletons.Goals as goal

pub loop-variable-preserved : goal.loop-variable-preserved
loop-variable-preserved c =
    let G = c.args.context.now in
    let g : slice_get G c.loop-variable.variable ≡ Some (type_of c.in-Some.ty.now) = sym c.get.ensures ∙ ap (option_map (λ a. type_of a.now)) c.in-Some.is in
    one_skeleton c.loop-variable.skeletons.items c.push.new.self.items c.in_ok-skeleton-in-Some.field-0 G c.loop-variable.variable (type_of c.in-Some.ty.now) _ g c.in_ok-skeleton-in-Some.ensures c.in_ok-push-in-Some.ensures.items c.loop-variable.invariant
