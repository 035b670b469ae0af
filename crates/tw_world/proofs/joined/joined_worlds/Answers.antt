use Rattle.std.proofs.Common.{map}
use Rattle.tw_clause.specs.Tables.{world_rows_of}
use Rattle.tw_clause.specs.View.{worlds_of}
use Rattle.tw_terms.specs.declared.canonical.ConstId.{ConstId}
use Rattle.tw_world.proofs.TakenIn.{all_joined, joined_end}
use Rattle.tw_world.proofs.joined.joined_worlds.Goals as goal

pub returns : goal.returns
returns c =
    let families = c.args.families.now in
    all_joined (world_rows_of c.args.rows.now) (map (λ (f : ConstId). f.0) families) (worlds_of c.loop-family.joined)
    (joined_end (λ (f : ConstId). f.0) (world_rows_of c.args.rows.now) families c.loop-family.family-index (worlds_of c.loop-family.joined) c.loop-family-test.false c.loop-family.invariant)
