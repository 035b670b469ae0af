use Rattle.std.proofs.Common.{◌≡◌, ◌+◌, ◌*◌, ap, ◌∙◌, rules, arith}
use Rattle.std.specs.Box.{with_value}
use Rattle.tw_shapes.specs.Dropping.{weight}
use Rattle.tw_shapes.specs.declared.shape.Shape.{Arrow}
use Rattle.tw_shapes.proofs.Weights.{weight-Arrow}
use Rattle.tw_shapes.proofs.shape.Shape.+drop.Goals as goal

-- what stands first of the domain comes to the front, and the rest of it goes behind
pub loop-domain-smaller : goal.loop-domain-smaller
loop-domain-smaller t c =
    let first = c.in-Arrow-parts.first in
    let second = c.in-Arrow-parts.second in
    let range = c.in-Arrow.range in
    let box = with_value (with_value c.in-Arrow.domain c.replace.new.dest) (Arrow second range) in
    let whole : weight c.loop-domain.self ≡ 2 * weight c.in-Arrow.domain.value + weight range.value + 1 = ap weight c.in-Arrow.ensures ∙ weight-Arrow c.in-Arrow.domain range in
    let taken : c.in-Arrow.domain.value ≡ c.replace.result = search rules in
    let front : weight c.in-Arrow.domain.value ≡ 2 * weight first.value + weight second.value + 1 = ap weight (taken ∙ c.in-Arrow-parts.ensures) ∙ weight-Arrow first second in
    let inner : weight (Arrow second range) ≡ 2 * weight second.value + weight range.value + 1 = weight-Arrow second range in
    let outer : weight (Arrow first box) ≡ 2 * weight first.value + weight (Arrow second range) + 1 = weight-Arrow first box in
    omega arith
