use Rattle.std.proofs.Common.{◌≡◌, ◌≤◌, min, max, drop}
use Rattle.lf.specs.Depth.{spine_depth}
use Rattle.tw_terms.specs.View.{args_of}
use Rattle.tw_terms.proofs.canonical.+depth.Given as goal

abbrev pub invariant-Spine::depth-loop-arg : goal.invariant-Spine::depth-loop-arg
invariant-Spine::depth-loop-arg l =
    (l.deepest ≤ 4294967295) × (min (max l.deepest (spine_depth (args_of (drop l.arg-index l.arg-items)))) 4294967295 ≡ min (spine_depth (args_of l.arg-items)) 4294967295)
