use Rattle.std.proofs.Common.{◌≡◌, ◌+◌, ◌*◌, ◌<◌, inr, ⊎_elim, rules, arith}
use Rattle.std.specs.Box.{with_value}
use Rattle.tw_parse.specs.Dropping.{weight}
use Rattle.tw_parse.specs.declared.term.ExtTerm.{App, size-ExtTerm}
use Rattle.tw_parse.proofs.Weights.{weight-App}
use Rattle.tw_parse.proofs.term.ExtTerm.+drop.Goals as goal

-- what stands first of the first part comes to the front, and the rest of it goes behind
pub loop-part-smaller : goal.loop-part-smaller
loop-part-smaller t c =
    let first = c.in-Two-parts.first in
    let second = c.in-Two-parts.second in
    let right = c.in-Two.right in
    let box = with_value (with_value c.in-Two.left c.replace.new.dest) (App second right) in
    let whole : weight c.loop-part.self ≡ 2 * weight c.in-Two.left.value + weight right.value + 1 = search rules in
    let front : weight c.in-Two.left.value ≡ 2 * weight first.value + weight second.value + 1 = search rules in
    let inner : weight (App second right) ≡ 2 * weight second.value + weight right.value + 1 = weight-App second right in
    let outer : weight (App first box) ≡ 2 * weight first.value + weight (App second right) + 1 = weight-App first box in
    omega arith

pub loop-part-preserved : goal.loop-part-preserved
loop-part-preserved t c =
    let inner : size-ExtTerm c.in-Two-parts.first.value < size-ExtTerm c.in-Two.left.value = search rules in
    let outer : size-ExtTerm c.in-Two.left.value < size-ExtTerm c.loop-part.self = search rules in
    let deep : 1 < size-ExtTerm c.args.self = ⊎_elim (λ h. omega arith) (λ h. h) c.loop-part.invariant in
    inr deep
