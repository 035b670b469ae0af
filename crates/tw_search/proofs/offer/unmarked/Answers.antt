use Rattle.std.proofs.Common.{drop}
use Rattle.std.proofs.lemmas.List.{drop_all}
use Rattle.tw_search.specs.Offers.{unmarked}
use Rattle.tw_search.proofs.Offering.{unmarked_end}
use Rattle.tw_search.proofs.offer.unmarked.Goals as goal

pub returns : goal.returns
returns c = unmarked_end (drop c.loop-place.place c.args.marks.now) (drop c.loop-place.place c.args.metas.now) c.loop-place.found.items (unmarked c.args.marks.now c.args.metas.now) (drop_all c.loop-place.place c.args.metas.now c.loop-place-test.false) c.loop-place.invariant
