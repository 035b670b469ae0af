use Rattle.std.proofs.Common.{◌≡◌, [], None, arith, drop, length, sym}
use Rattle.std.specs.Prelude.{slice_get}
use Rattle.std.proofs.lemmas.Grind.{common_steps}
use Rattle.tw_prune.specs.Walks.{differences_from}
use Rattle.tw_prune.proofs.Meanings.{differences_end}
use Rattle.tw_prune.proofs.Options.{lt_false}
use Rattle.tw_prune.proofs.Tables.{get_past}
use Rattle.tw_prune.proofs.compare.different_places.Goals as goal

pub returns-in-None : goal.returns-in-None
returns-in-None c =
    let n : slice_get c.args.right.now c.loop-place.place ≡ None = get_past c.args.right.now c.loop-place.place (lt_false c.loop-place.place (length c.args.right.now) (sym c.in-None.ensures.lookup.0)) in
    let e : differences_from c.loop-place.place (drop c.loop-place.place c.args.left.now) (drop c.loop-place.place c.args.right.now) ≡ [] = differences_end c.loop-place.place c.loop-place.place (drop c.loop-place.place c.args.left.now) c.args.right.now n in
    grind (arith, common_steps, e)
