use Rattle.std.proofs.Common.{◌≡◌, ◌++◌, drop}
use Rattle.lf_elaboration.specs.Sites.{sites_from}
use Rattle.tw_written.specs.SiteView.{sites_of, spots_of}
use Rattle.tw_written.proofs.order.expanded.Given as goal

-- the sites so far, and those of the spots that are left
abbrev pub invariant-loop-spot : goal.invariant-loop-spot
invariant-loop-spot l = sites_of l.sites.items ++ sites_from l.next (spots_of (drop l.spot-index l.spots)) ≡ sites_from 0 (spots_of l.spots)
