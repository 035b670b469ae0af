use Rattle.std.proofs.Common.{◌<◌, arith, sym, ◌∙◌}
use Rattle.tw_shapes.specs.Order.{length_of_walk}
use Rattle.tw_shapes.specs.View.{shape_of, store_of}
use Rattle.tw_shapes.proofs.Steps.{one-same, shorter}
use Rattle.tw_shapes.proofs.bindings.Bindings.followed.Goals as goal

pub loop-rest-smaller : goal.loop-rest-smaller
loop-rest-smaller c = shorter (store_of c.args.self.now) c.requires c.loop-rest.rest.now c.in-Some.value.now c.in-Variable.variable c.in-Variable.is (sym c.in-Some.ensures)

pub loop-rest-preserved : goal.loop-rest-preserved
loop-rest-preserved c =
    let s = store_of c.args.self.now in
    let i = c.loop-rest.invariant in
    let e : length_of_walk s (shape_of c.in-Some.value.now) < length_of_walk s (shape_of c.loop-rest.rest.now) = shorter s c.requires c.loop-rest.rest.now c.in-Some.value.now c.in-Variable.variable c.in-Variable.is (sym c.in-Some.ensures) in
    record {
      same = λ θ h. one-same s c.loop-rest.rest.now c.in-Some.value.now c.in-Variable.variable c.in-Variable.is (sym c.in-Some.ensures) θ h ∙ i.same θ h;
      within = λ w. c.requires.within c.in-Variable.variable.0 (shape_of c.in-Some.value.now) (sym c.in-Some.ensures);
      shorter = omega (arith, e, i.shorter);
    }
