use Rattle.std.proofs.Common.{◌≡◌, map, take}
use Rattle.tw_approx.specs.Answer.{rows_of}
use Rattle.tw_resolve.specs.Resolved.{skeletons_of}
use Rattle.tw_terms.specs.View.{skeleton_of}
use Rattle.tw_recon.proofs.begun.skeletons.Given as goal

abbrev pub invariant-loop-row : goal.invariant-loop-row
invariant-loop-row l = map skeleton_of l.skeletons.items ≡ skeletons_of (rows_of (take l.row-index l.rows))
