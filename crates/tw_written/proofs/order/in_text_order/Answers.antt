use Rattle.std.proofs.lemmas.List.Sorted.{IsPermutation-map}
use Rattle.tw_written.specs.SiteView.{site_of}
use Rattle.tw_written.proofs.Ordering.{sorted_seen}
use Rattle.tw_written.proofs.order.in_text_order.Goals as goal

pub returns-clause-all : goal.returns-clause-all
returns-clause-all c = IsPermutation-map site_of c.args.sites.items c.sort.new.self.items c.in_ok-sort.ensures.permutation

pub returns-clause-in_order : goal.returns-clause-in_order
returns-clause-in_order c = sorted_seen c.sort.new.self.items c.in_ok-sort.ensures.sorted
