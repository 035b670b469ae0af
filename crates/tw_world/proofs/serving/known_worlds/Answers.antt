use Rattle.std.proofs.Common.{◌∙◌, ap, arith, map}
use Rattle.lf_checks.specs.WorldFaults.{worlds_of}
use Rattle.tw_clause.specs.Tables.{world_row_of}
use Rattle.tw_world.proofs.Served.{other_row, this_row}
use Rattle.tw_world.proofs.serving.known_worlds.Goals as goal

pub returns-then-other-family : goal.returns-then-other-family
returns-then-other-family c = this_row world_row_of c.deref-other-items.result.now c.loop-other.other-index c.loop-other-item.result c.args.family.0 (omega arith) c.loop-other-item.is c.if-other-family.true ∙ c.loop-other.invariant ∙ ap (λ xs. worlds_of (map world_row_of xs) c.args.family.0) c.deref-other-items.ensures.value

pub loop-other-preserved : goal.loop-other-preserved
loop-other-preserved c = other_row world_row_of c.deref-other-items.result.now c.loop-other.other-index c.loop-other-item.result c.args.family.0 (omega arith) c.loop-other-item.is c.if-other-family.false ∙ c.loop-other.invariant
