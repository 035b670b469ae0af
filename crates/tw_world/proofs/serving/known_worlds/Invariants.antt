use Rattle.std.proofs.Common.{◌≡◌, drop, map}
use Rattle.lf_checks.specs.WorldFaults.{worlds_of}
use Rattle.tw_clause.specs.Tables.{world_row_of}
use Rattle.tw_world.proofs.serving.known_worlds.Given as goal

abbrev pub invariant-loop-other : goal.invariant-loop-other
invariant-loop-other l = worlds_of (map world_row_of (drop l.other-index l.other-items)) l.family.0 ≡ worlds_of (map world_row_of l.other-items) l.family.0
