use Rattle.std.proofs.Common.{List, [], drop, map}
use Rattle.lf.specs.Subordination.{Block}
use Rattle.lf_checks.specs.OrderFaults.{blocks_of}
use Rattle.tw_clause.specs.Tables.{world_rows_of}
use Rattle.tw_clause.specs.View.{worlds_of}
use Rattle.tw_terms.specs.declared.canonical.ConstId.{ConstId}
use Rattle.tw_world.specs.Joined.{TakesIn}
use Rattle.tw_world.proofs.joined.joined_worlds.Given as goal

abbrev pub invariant-loop-family : goal.invariant-loop-family
invariant-loop-family l = (L : List Block) → TakesIn (worlds_of l.joined) (blocks_of (world_rows_of l.rows) (map (λ (f : ConstId). f.0) (drop l.family-index l.families))) L → TakesIn [] (blocks_of (world_rows_of l.rows) (map (λ (f : ConstId). f.0) l.families)) L
