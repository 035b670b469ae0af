use Rattle.std.proofs.Common.{◌≤◌, drop, length, map}
use Rattle.tw_metas.specs.Named.{named_of}
use Rattle.tw_putting.specs.Whole.{AreDistinct}
use Rattle.tests_unification.proofs.solving.are_distinct.Given as goal

-- those from the place on have one name each
abbrev pub invariant-loop-place : goal.invariant-loop-place
invariant-loop-place l = record {
  within : l.place ≤ length l.named;
  distinct : AreDistinct (map (λ n. n.0) (map named_of (drop l.place l.named)));
}

abbrev pub decreases-loop-place : goal.decreases-loop-place
decreases-loop-place l = l.place
