use Rattle.std.proofs.Common.{◌≡◌, ◌++◌, ◌-◌, Some}
use Rattle.lf_elaboration.specs.Sites.{sites_at}
use Rattle.tw_written.specs.SiteView.{sites_of}
use Rattle.tw_written.specs.View.{place_of}
use Rattle.tw_written.proofs.order.add_spot.Given as goal

-- the sites so far
abbrev pub invariant-loop-number : goal.invariant-loop-number
invariant-loop-number l = sites_of l.sites.items ≡ sites_of l.fn.sites.items ++ sites_at (Some (place_of l.at)) l.first (l.number - l.first)
