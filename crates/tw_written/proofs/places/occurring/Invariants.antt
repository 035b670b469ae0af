use Rattle.std.proofs.Common.{◌≡◌, ◌++◌, List, drop, length}
use Rattle.lf_elaboration.specs.Sites.{Site, free_sites}
use Rattle.tw_written.specs.First.{AreFirstPlaces}
use Rattle.tw_written.specs.SiteView.{sites_of}
use Rattle.tw_written.proofs.places.occurring.Given as goal

-- the free variables so far, and those that are left
abbrev pub invariant-loop-variable : goal.invariant-loop-variable
invariant-loop-variable l = (fs : List Site) → AreFirstPlaces fs (length l.places) l.places → sites_of l.sites.items ++ free_sites fs l.variable (length (drop l.variable l.places)) ≡ free_sites fs 0 (length l.places)
