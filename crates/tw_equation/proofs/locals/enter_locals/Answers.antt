use Rattle.std.proofs.Common.{◌≡◌, ◌∙◌, ◌-◌, ◌+◌, ◌∷◌, Some, length, drop, sym, ap, arith, rules, length-drop}
use Rattle.std.specs.List.{slice_get}
use Rattle.std.specs.Option.{option_map}
use Rattle.tw_abstract.specs.Generalizing.{generalized_type}
use Rattle.tw_abstract.specs.Positions.{index}
use Rattle.tw_print.proofs.Contexts.{outside_at}
use Rattle.tw_terms.specs.OpenView.{open_type_of}
use Rattle.tw_terms.specs.View.{type_of}
use Rattle.tw_equation.proofs.LocalTypes.{one_entered}
use Rattle.tw_equation.proofs.locals.enter_locals.Goals as goal

pub loop-outside-preserved : goal.loop-outside-preserved
loop-outside-preserved c =
    let D = c.args.local.now in
    let o = c.loop-outside.outside in
    let A = open_type_of c.unwrap-ty.result.now in
    let B = type_of c.in-Some.ty in
    let u : c.get.result ≡ Some c.unwrap-ty.result = search rules in
    let a : slice_get D (length D - 1 - o) ≡ Some A = ap (slice_get D) (ap (λ n. n - 1 - o) (sym c.len-count.ensures)) ∙ sym c.get.ensures ∙ ap (option_map (λ x. open_type_of x.now)) u in
    let d : drop (length D - (o + 1)) D ≡ A ∷ drop (length D - o) D = outside_at D o A (omega arith) a in
    let l : o ≡ length (drop (length D - o) D) = let q = length-drop (length D - o) D in omega (arith, q) in
    let g : generalized_type (index c.args.positions.now) o A ≡ Some B = sym c.in_ok-ty.ensures ∙ ap (option_map type_of) c.in-Some.is in
    record {
      entered = one_entered (index c.args.positions.now) (drop (length D - o) D) (drop (length D - (o + 1)) D) c.args.context.now c.loop-outside.context c.enter.new.context A B o d l g c.in_ok-enter.ensures.grown c.loop-outside.invariant.entered;
      showable = c.in_ok-enter.ensures.showable;
    }
