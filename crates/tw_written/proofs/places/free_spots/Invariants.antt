use Rattle.std.proofs.Common.{◌≡◌, ◌++◌, List, drop, length, map}
use Rattle.lf_elaboration.specs.Sites.{Site, free_spots}
use Rattle.tw_terms.specs.View.{skeleton_of}
use Rattle.tw_written.specs.First.{AreFirstPlaces}
use Rattle.tw_written.specs.SiteView.{spots_of}
use Rattle.tw_written.proofs.places.free_spots.Given as goal

-- the spots so far, and those of the free variables that are left
abbrev pub invariant-loop-variable : goal.invariant-loop-variable
invariant-loop-variable l = (fs : List Site) → AreFirstPlaces fs (length l.skeletons) l.places → spots_of l.spots.items ++ free_spots l.signature fs l.variable (map skeleton_of (drop l.variable l.skeletons)) ≡ spots_of l.fn.spots.items ++ free_spots l.signature fs 0 (map skeleton_of l.skeletons)
