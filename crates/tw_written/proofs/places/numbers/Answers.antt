use Rattle.std.proofs.Common.{◌∙◌}
use Rattle.tw_written.proofs.Growing.{numbers_seen}
use Rattle.tw_written.proofs.places.numbers.Goals as goal

pub returns : goal.returns
returns c = c.loop-site.invariant ∙ numbers_seen c.args.sites.now c.loop-site.site-index c.loop-site-test.false
