use Rattle.std.proofs.Common.{◌≡◌, ◌∙◌, ◌-◌, Some, false, arith, ap, get_or, sym, rules}
use Rattle.std.proofs.lemmas.Grind.{common_steps}
use Rattle.std.specs.List.{slice_get}
use Rattle.std.specs.Option.{option_map}
use Rattle.tw_print.specs.Names.{lower_base}
use Rattle.tw_print.specs.ShowEnv.{scene_of}
use Rattle.tw_print.specs.Shown.{quantifier_name}
use Rattle.tw_terms.specs.View.{type_of}
use Rattle.tw_equation.proofs.LocalTypes.{one_named}
use Rattle.tw_equation.proofs.locals.name_locals.Goals as goal

pub loop-variable-preserved : goal.loop-variable-preserved
loop-variable-preserved c =
    let s = scene_of c.args.env.now in
    let C = c.args.context.now in
    let k = c.loop-variable.variable - 1 in
    let A = type_of c.unwrap-ty.result.now in
    let u : c.get.result ≡ Some c.unwrap-ty.result = search rules in
    let g : slice_get C k ≡ Some A = sym c.get.ensures ∙ ap (option_map (λ a. type_of a.now)) u in
    let i : c.index.result.now ≡ get_or c.in_ok-marks.marks.items k false = grind (arith, common_steps) in
    let e : c.in_ok-name.name ≡ quantifier_name s c.loop-variable.scope (get_or c.in_ok-marks.marks.items k false) (lower_base s A) = c.in_ok-name.ensures ∙ ap (λ b. quantifier_name s c.loop-variable.scope b (lower_base s A)) i in
    one_named s C c.args.count k c.loop-variable.variable c.args.shown.now c.in_ok-marks.marks.items A c.loop-variable.scope c.push.new.self _ c.in_ok-name.name (omega arith) (omega arith) g c.in_ok-marks.ensures e c.in_ok-push.ensures.ok c.loop-variable.invariant
