use Rattle.std.proofs.Common.{◌≡◌, ◌≤◌, ◌++◌, ◌-◌, length, replicate, vec_len}
use Rattle.std.specs.Prelude.{None}
use Rattle.tw_recon.proofs.names.reach.Given as goal

abbrev pub invariant-loop-names : goal.invariant-loop-names
invariant-loop-names l = record {
  items : l.names.items ≡ l.fn.names.items ++ replicate (length l.names.items - length l.fn.names.items) None;
  most : length l.names.items ≤ l.count;
}

abbrev pub decreases-loop-names : goal.decreases-loop-names
decreases-loop-names l = l.count - vec_len l.names
