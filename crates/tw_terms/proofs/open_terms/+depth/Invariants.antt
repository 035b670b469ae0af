use Rattle.std.proofs.Common.{◌≡◌, ◌≤◌, min, max, drop}
use Rattle.lf.specs.Depth.{spine_depth}
use Rattle.tw_terms.specs.OpenView.{open_args_of}
use Rattle.tw_terms.proofs.open_terms.+depth.Given as goal

abbrev pub invariant-OpenSpine::depth-loop-arg : goal.invariant-OpenSpine::depth-loop-arg
invariant-OpenSpine::depth-loop-arg l =
    (l.deepest ≤ 4294967295) × (min (max l.deepest (spine_depth (open_args_of (drop l.arg-index l.arg-items)))) 4294967295 ≡ min (spine_depth (open_args_of l.arg-items)) 4294967295)
